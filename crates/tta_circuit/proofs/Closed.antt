-- Expressions that read only signals of one kind read only those of a wider one.
use Rattle.std.proofs.Common.{◌≡◌, ℕ, ◌<◌, Bool, true, false, ◌&&◌, refl, ap, arith}
use Rattle.std.specs.Prelude.{if◌then◌else◌, nat_lt}
use Rattle.std.proofs.lemmas.Bool.{and_parts, and_from, ltb-true, lt-ltb, false≢true}
use Rattle.tta_circuit.specs.Circuit.{Expr, Const, Signal, Slice, Join, Select, Not, Both, Either, Equal, Below, Plus, Minus, Times, BitAnd, BitOr, BitXor, Left, Right, Read, Apply}
use Rattle.tta_circuit.specs.Order.{reads_below}
use Rattle.tta_circuit.specs.Closed.{reads_only}

module _ {N M : Type 0} (rank wide : N → ℕ) (k : ℕ) (less : (n : N) → rank n < k → wide n < k) where
  pair : (a b : Expr N M) → (reads_below rank k a && reads_below rank k b) ≡ true
      → (reads_below rank k a ≡ true → reads_below wide k a ≡ true) → (reads_below rank k b ≡ true → reads_below wide k b ≡ true)
      → (reads_below wide k a && reads_below wide k b) ≡ true
  pair a b h of_a of_b =
      let p = and_parts (reads_below rank k a) (reads_below rank k b) h in
      and_from (reads_below wide k a) (reads_below wide k b) (of_a p.0) (of_b p.1)

  pub weaker : (e : Expr N M) → reads_below rank k e ≡ true → reads_below wide k e ≡ true
  weaker (Const width word) h = refl
  weaker (Signal n) h = lt-ltb (wide n) k (less n (ltb-true (rank n) k h))
  weaker (Slice low width e) h = weaker e h
  weaker (Join width high low) h = pair high low h (weaker high) (weaker low)
  weaker (Select test on off) h =
      let p = and_parts (reads_below rank k test) (reads_below rank k on && reads_below rank k off) h in
      and_from (reads_below wide k test) (reads_below wide k on && reads_below wide k off) (weaker test p.0)
      (pair on off p.1 (weaker on) (weaker off))
  weaker (Not e) h = weaker e h
  weaker (Both a b) h = pair a b h (weaker a) (weaker b)
  weaker (Either a b) h = pair a b h (weaker a) (weaker b)
  weaker (Equal a b) h = pair a b h (weaker a) (weaker b)
  weaker (Below a b) h = pair a b h (weaker a) (weaker b)
  weaker (BitAnd a b) h = pair a b h (weaker a) (weaker b)
  weaker (BitOr a b) h = pair a b h (weaker a) (weaker b)
  weaker (BitXor a b) h = pair a b h (weaker a) (weaker b)
  weaker (Plus width a b) h = pair a b h (weaker a) (weaker b)
  weaker (Minus width a b) h = pair a b h (weaker a) (weaker b)
  weaker (Times width a b) h = pair a b h (weaker a) (weaker b)
  weaker (Left width a by) h = pair a by h (weaker a) (weaker by)
  weaker (Right a by) h = pair a by h (weaker a) (weaker by)
  weaker (Read m address) h = weaker address h
  weaker (Apply op a b) h = pair a b h (weaker a) (weaker b)

-- what reads only signals that pass a test reads only those that pass a weaker one
pub reads_wider : {N M : Type 0} (has more : N → Bool) → ((n : N) → has n ≡ true → more n ≡ true) → (e : Expr N M)
    → reads_only has e ≡ true → reads_only more e ≡ true
reads_wider {N = N} has more wider e is =
    weaker (λ n. if has n then 0 else 1) (λ n. if more n then 0 else 1) 1 (λ n less. by n (has n) refl less) e is where
      by : (n : N) (b : Bool) → has n ≡ b → (if b then 0 else 1) < 1 → (if more n then 0 else 1) < 1
      by n true it less = at (more n) (wider n it) where
        at : (b : Bool) → b ≡ true → (if b then 0 else 1) < 1
        at true e = omega arith
        at false e = absurd (false≢true e)
      by n false it less = absurd (omega (arith, less))

-- a signal that passes it may be read
pub reads_one : {N : Type 0} (has : N → Bool) (n : N) → has n ≡ true → nat_lt (if has n then 0 else 1) 1 ≡ true
reads_one has n is = ap (λ b. nat_lt (if b then 0 else 1) 1) is
