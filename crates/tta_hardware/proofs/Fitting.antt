-- Expressions of a machine that keep their widths and are plain.
use Rattle.std.proofs.Common.{◌≡◌, ℕ, ◌+◌, ◌^◌, ◌<◌, ◌≤◌, ◌==◌, Bool, true, ◌&&◌, List, [], ◌∷◌, ◌++◌, length, map, refl, sym, ap, ◌∙◌, arith}
use Rattle.std.specs.Prelude.{nat_le, nat_lt}
use Rattle.std.specs.List.{AllByRecursion}
use Rattle.std.proofs.lemmas.Bool.{and_from, eq-eqb, lt-ltb, le-leb}
use Rattle.tta_hardware.specs.Cited.{Machine, Const, Signal, Slice, Join, Select, Not, Both, Either, Equal, Below, Plus, Read, Apply, is_sized, is_plain}
use Rattle.tta_circuit.specs.Widths.{width_of}
use Rattle.tta_hardware.specs.Signals.{Store, Signal as Named, Expression}
use Rattle.tta_hardware.specs.Chains.{any_of, first_of, pick_from}
use Rattle.tta_hardware.specs.Sized.{signal_width, store_width, Fits}

module _ (m : Machine) where
  abbrev w : Expression → ℕ
  w e = width_of (signal_width m) (store_width m) e

  abbrev ok : Expression → Bool
  ok e = is_sized (signal_width m) (store_width m) e

  abbrev plain : Expression → Bool
  plain e = is_plain (signal_width m) (store_width m) e

  -- two widths that are one
  same : (a b x y : ℕ) → a ≡ x → b ≡ y → x ≡ y → (a == b) ≡ true
  same a b x y p q r = eq-eqb a b (p ∙ r ∙ sym q)

  -- a signal that has bits
  pub signal : (n : Named) → nat_lt 0 (signal_width m n) ≡ true → Fits m (Signal n) (signal_width m n)
  signal n some = record { plain = some; sized = refl; wide = refl }

  pub const : (k x : ℕ) → nat_lt 0 k ≡ true → x < 2 ^ k → Fits m (Const k x) k
  const k x some less = record { plain = some; sized = lt-ltb x (2 ^ k) less; wide = refl }

  -- a part of a signal
  pub slice : (low k : ℕ) (n : Named) → nat_lt 0 (signal_width m n) ≡ true → 0 < k → low + k ≤ signal_width m n
      → Fits m (Slice low k (Signal n)) k
  slice low k n some bits less = record {
    plain = and_from (nat_lt 0 k) (nat_lt 0 (signal_width m n)) (lt-ltb 0 k bits) some;
    sized = and_from (nat_le (low + k) (signal_width m n)) true (le-leb (low + k) (signal_width m n) less) refl;
    wide = refl;
  }

  pub join : (k a : ℕ) (high low : Expression) → Fits m high a → Fits m low k → Fits m (Join k high low) (a + k)
  join k a high low f g = record {
    plain = and_from (plain high) (plain low) f.plain g.plain;
    sized = and_from (w low == k) (ok high && ok low) (eq-eqb (w low) k g.wide) (and_from (ok high) (ok low) f.sized g.sized);
    wide = ap (λ (n : ℕ). n + k) f.wide;
  }

  pub select : (k : ℕ) (t a b : Expression) → Fits m t 1 → Fits m a k → Fits m b k → Fits m (Select t a b) k
  select k t a b f g h = record {
    plain = and_from (plain t) (plain a && plain b) f.plain (and_from (plain a) (plain b) g.plain h.plain);
    sized = and_from (w t == 1 && w a == w b) (ok t && (ok a && ok b))
        (and_from (w t == 1) (w a == w b) (eq-eqb (w t) 1 f.wide) (same (w a) (w b) k k g.wide h.wide refl))
        (and_from (ok t) (ok a && ok b) f.sized (and_from (ok a) (ok b) g.sized h.sized));
    wide = g.wide;
  }

  pub negated : (e : Expression) → Fits m e 1 → Fits m (Not e) 1
  negated e f = record { plain = f.plain; sized = and_from (w e == 1) (ok e) (eq-eqb (w e) 1 f.wide) f.sized; wide = refl }

  two : (a b : Expression) → Fits m a 1 → Fits m b 1 → ((w a == 1 && w b == 1) && (ok a && ok b)) ≡ true
  two a b f g =
      and_from (w a == 1 && w b == 1) (ok a && ok b) (and_from (w a == 1) (w b == 1) (eq-eqb (w a) 1 f.wide) (eq-eqb (w b) 1 g.wide))
      (and_from (ok a) (ok b) f.sized g.sized)

  pub both : (a b : Expression) → Fits m a 1 → Fits m b 1 → Fits m (Both a b) 1
  both a b f g = record { plain = and_from (plain a) (plain b) f.plain g.plain; sized = two a b f g; wide = refl }

  pub either : (a b : Expression) → Fits m a 1 → Fits m b 1 → Fits m (Either a b) 1
  either a b f g = record { plain = and_from (plain a) (plain b) f.plain g.plain; sized = two a b f g; wide = refl }

  alike : (k : ℕ) (a b : Expression) → Fits m a k → Fits m b k → (w a == w b && (ok a && ok b)) ≡ true
  alike k a b f g = and_from (w a == w b) (ok a && ok b) (same (w a) (w b) k k f.wide g.wide refl) (and_from (ok a) (ok b) f.sized g.sized)

  pub equal : (k : ℕ) (a b : Expression) → Fits m a k → Fits m b k → Fits m (Equal a b) 1
  equal k a b f g = record { plain = and_from (plain a) (plain b) f.plain g.plain; sized = alike k a b f g; wide = refl }

  pub below : (k : ℕ) (a b : Expression) → Fits m a k → Fits m b k → Fits m (Below a b) 1
  below k a b f g = record { plain = and_from (plain a) (plain b) f.plain g.plain; sized = alike k a b f g; wide = refl }

  pub plus : (k : ℕ) (a b : Expression) → Fits m a k → Fits m b k → Fits m (Plus k a b) k
  plus k a b f g = record {
    plain = and_from (plain a) (plain b) f.plain g.plain;
    sized = and_from (w a == k && w b == k) (ok a && ok b) (and_from (w a == k) (w b == k) (eq-eqb (w a) k f.wide) (eq-eqb (w b) k g.wide))
        (and_from (ok a) (ok b) f.sized g.sized);
    wide = refl;
  }

  pub read : (s : Store) (k : ℕ) (a : Expression) → nat_lt 0 (store_width m s) ≡ true → Fits m a k → Fits m (Read s a) (store_width m s)
  read s k a some f = record { plain = and_from (nat_lt 0 (store_width m s)) (plain a) some f.plain; sized = f.sized; wide = refl }

  pub apply : (op : ℕ) (a b : Expression) → Fits m a 32 → Fits m b 32 → Fits m (Apply op a b) 32
  apply op a b f g = record {
    plain = and_from (plain a) (plain b) f.plain g.plain;
    sized = and_from (w a == 32 && w b == 32) (ok a && ok b)
        (and_from (w a == 32) (w b == 32) (eq-eqb (w a) 32 f.wide) (eq-eqb (w b) 32 g.wide)) (and_from (ok a) (ok b) f.sized g.sized);
    wide = refl;
  }

  -- ---- over lists

  pub any_fits : {A : Type 0} (f : A → Expression) (xs : List A) → AllByRecursion (λ x. Fits m (f x) 1) xs → Fits m (any_of (map f xs)) 1
  any_fits f [] all = const 1 0 refl (omega arith)
  any_fits f (x ∷ xs) all = either (f x) (any_of (map f xs)) all.0 (any_fits f xs all.1)

  pub first_fits : {A : Type 0} (k : ℕ) (f e : A → Expression) (xs : List A) (other : Expression)
      → AllByRecursion (λ x. Fits m (f x) 1 × Fits m (e x) k) xs → Fits m other k
      → Fits m (first_of (map (λ x. (f x, e x)) xs) other) k
  first_fits k f e [] other all rest = rest
  first_fits k f e (x ∷ xs) other all rest = select k (f x) (e x) (first_of (map (λ x. (f x, e x)) xs) other) all.0.0 all.0.1
      (first_fits k f e xs other all.1 rest)

  pub both_fit : (k : ℕ) (xs ys : List (Expression × Expression)) (other : Expression)
      → AllByRecursion (λ c. Fits m c.0 1 × Fits m c.1 k) xs → Fits m (first_of ys other) k
      → Fits m (first_of (xs ++ ys) other) k
  both_fit k [] ys other all rest = rest
  both_fit k (x ∷ xs) ys other all rest = select k x.0 x.1 (first_of (xs ++ ys) other) all.0.0 all.0.1 (both_fit k xs ys other all.1 rest)

  pub pick_fits : {A : Type 0} (k width j most : ℕ) (code : Expression) (f : A → Expression) (xs : List A) (other : Expression)
      → Fits m code width → nat_lt 0 width ≡ true → j + length xs ≤ most → most ≤ 2 ^ width
      → AllByRecursion (λ x. Fits m (f x) k) xs → Fits m other k → Fits m (pick_from width code j (map f xs) other) k
  pick_fits k width j most code f [] other coded some few enough all rest = rest
  pick_fits k width j most code f (x ∷ xs) other coded some few enough all rest =
      select k (Equal code (Const width j)) (f x) (pick_from width code (j + 1) (map f xs) other)
      (equal width code (Const width j) coded (const width j some (omega (arith, few, enough)))) all.0
      (pick_fits k width (j + 1) most code f xs other coded some (omega (arith, few)) enough all.1 rest)

  -- what holds of each element holds of all
  pub all_of : {A : Type 0} (P : A → Type 0) (xs : List A) → ((x : A) → P x) → AllByRecursion P xs
  all_of P [] each = tt
  all_of P (x ∷ xs) each = (each x, all_of P xs each)
