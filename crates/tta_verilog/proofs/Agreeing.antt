-- Two circuits that have the same signals and memories in lines agree on their widths.
use Rattle.std.proofs.Common.{◌≡◌, ℕ, ◌<◌, Bool, true, false, ◌&&◌, ◌||◌, nat_lt, List, [], ◌∷◌, ◌++◌, refl, sym, ap, subst, ◌∙◌}
use Rattle.std.specs.Prelude.{if◌then◌else◌}
use Rattle.std.specs.List.{list_any, AllByRecursion}
use Rattle.std.proofs.lemmas.Bool.{and_parts, false≢true}
use Rattle.tta_list.proofs.Lists.{all_append}
use Rattle.tta_circuit.specs.Circuit.{Expr, Const, Signal, Slice, Join, Select, Not, Both, Either, Equal, Below, Plus, Minus, Times, BitAnd, BitOr, BitXor, Left, Right, Read, Apply}
use Rattle.tta_circuit.specs.Meaning.{is_input}
use Rattle.tta_circuit.specs.Closed.{reads_only}
use Rattle.tta_circuit.specs.Laws.{TellsApart}
use Rattle.tta_verilog.specs.Spelling.{Scope, has_token, tokens_in}
use Rattle.tta_verilog.specs.Laws.{AreSpelled}
use Rattle.tta_verilog.proofs.Words.{all_halves}
use Rattle.tta_verilog.proofs.Lists.{Paired}
use Rattle.tta_verilog.proofs.Filled.{Agrees}

-- ---- widths by names

module _ {N : Type 0} (same : N → N → Bool) (tells : TellsApart same) (signal other : N → ℕ) where
  -- a name of a width
  named_so : (a n : N) (v w : ℕ) → same a n ≡ true → signal a ≡ v → other a ≡ w → v ≡ w → other n ≡ signal n
  named_so a n v w is here there wide = subst (λ k. other k ≡ signal k) (tells.is a n is) (there ∙ sym wide ∙ sym here)

  -- the inputs
  pub input_agrees : (n : N) (is : List (N × ℕ)) → AllByRecursion (λ i. (0 < i.1) × (signal i.0 ≡ i.1)) is
      → AllByRecursion (λ i. (0 < i.1) × (other i.0 ≡ i.1)) is → is_input same is n ≡ true → other n ≡ signal n
  input_agrees n [] p q h = absurd (false≢true h)
  input_agrees n (i ∷ is) p q h = by (same i.0 n) refl (input_agrees n is p.1 q.1) h where
    by : (c : Bool) → same i.0 n ≡ c → (is_input same is n ≡ true → other n ≡ signal n) → (c || is_input same is n) ≡ true → other n ≡ signal n
    by true is rest h = named_so i.0 n i.1 i.1 is p.0.1 q.0.1 refl
    by false is rest h = rest h

  -- what has a name and a width in two lists that are alike
  pub item_agrees : {X : Type 0} (name : X → N) (width : X → ℕ) (n : N) (xs ys : List X)
      → Paired (λ x y. (name x ≡ name y) × (width x ≡ width y)) xs ys → AllByRecursion (λ x. signal (name x) ≡ width x) xs
      → AllByRecursion (λ y. other (name y) ≡ width y) ys → list_any (λ x. same (name x) n) xs ≡ true → other n ≡ signal n
  item_agrees name width n [] [] are p q h = absurd (false≢true h)
  item_agrees name width n [] (y ∷ ys) are p q h = absurd are
  item_agrees name width n (x ∷ xs) [] are p q h = absurd are
  item_agrees name width n (x ∷ xs) (y ∷ ys) are p q h = by (same (name x) n) refl (item_agrees name width n xs ys are.1 p.1 q.1) h where
    by : (c : Bool) → same (name x) n ≡ c → (list_any (λ x. same (name x) n) xs ≡ true → other n ≡ signal n)
        → (c || list_any (λ x. same (name x) n) xs) ≡ true → other n ≡ signal n
    by true is rest h = named_so (name x) n (width x) (width y) is p.0 (ap other are.0.0 ∙ q.0) are.0.1
    by false is rest h = rest h

-- ---- expressions of a circuit

module _ {N M : Type 0} (scope : Scope N M) (has : N → Bool) (signal other : N → ℕ) (memory other_memory : M → ℕ)
    (signals : (n : N) → has n ≡ true → other n ≡ signal n) (memories : (m : M) → scope.memory m ≡ true → other_memory m ≡ memory m) where
  abbrev Agree : Expr N M → Type 0
  Agree e = AllByRecursion (Agrees signal memory other other_memory) (tokens_in e)

  abbrev Spelled : Expr N M → Type 0
  Spelled e = AreSpelled scope (tokens_in e)

  pair : (a b : Expr N M) → (reads_only has a && reads_only has b) ≡ true → AreSpelled scope (tokens_in a ++ tokens_in b)
      → (reads_only has a ≡ true → Spelled a → Agree a) → (reads_only has b ≡ true → Spelled b → Agree b)
      → AllByRecursion (Agrees signal memory other other_memory) (tokens_in a ++ tokens_in b)
  pair a b h t of_a of_b =
      let p = and_parts (reads_only has a) (reads_only has b) h in
      let q = all_halves (λ t. has_token scope t ≡ true) (tokens_in a) (tokens_in b) t in
      all_append (Agrees signal memory other other_memory) (tokens_in a) (tokens_in b) (of_a p.0 q.0) (of_b p.1 q.1)

  has_it : (b : Bool) → nat_lt (if b then 0 else 1) 1 ≡ true → b ≡ true
  has_it true h = refl
  has_it false h = absurd (false≢true h)

  -- the names in an expression that reads only what the circuit has
  pub all_agree : (e : Expr N M) → reads_only has e ≡ true → Spelled e → Agree e
  all_agree (Const w n) h t = (tt, (tt, tt))
  all_agree (Signal n) h t = (signals n (has_it (has n) h), tt)
  all_agree (Slice low w e) h t = (tt, (tt, all_agree e h t.1.1))
  all_agree (Join w high low) h t = pair high low h t (all_agree high) (all_agree low)
  all_agree (Select test on off) h t =
      let p = and_parts (reads_only has test) (reads_only has on && reads_only has off) h in
      let q = all_halves (λ t. has_token scope t ≡ true) (tokens_in test) (tokens_in on ++ tokens_in off) t in
      all_append (Agrees signal memory other other_memory) (tokens_in test) (tokens_in on ++ tokens_in off) (all_agree test p.0 q.0)
      (pair on off p.1 q.1 (all_agree on) (all_agree off))
  all_agree (Not e) h t = all_agree e h t
  all_agree (Both a b) h t = pair a b h t (all_agree a) (all_agree b)
  all_agree (Either a b) h t = pair a b h t (all_agree a) (all_agree b)
  all_agree (Equal a b) h t = pair a b h t (all_agree a) (all_agree b)
  all_agree (Below a b) h t = pair a b h t (all_agree a) (all_agree b)
  all_agree (Plus w a b) h t = pair a b h t (all_agree a) (all_agree b)
  all_agree (Minus w a b) h t = pair a b h t (all_agree a) (all_agree b)
  all_agree (Times w a b) h t = pair a b h t (all_agree a) (all_agree b)
  all_agree (BitAnd a b) h t = pair a b h t (all_agree a) (all_agree b)
  all_agree (BitOr a b) h t = pair a b h t (all_agree a) (all_agree b)
  all_agree (BitXor a b) h t = pair a b h t (all_agree a) (all_agree b)
  all_agree (Left w a b) h t = pair a b h t (all_agree a) (all_agree b)
  all_agree (Right a b) h t = pair a b h t (all_agree a) (all_agree b)
  all_agree (Read m e) h t = (memories m t.0, all_agree e h t.1)
  all_agree (Apply op a b) h t = (tt, pair a b h t.1 (all_agree a) (all_agree b))
