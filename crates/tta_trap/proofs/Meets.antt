-- Expressions that read only signals of two kinds read only those of both.
use Rattle.std.proofs.Common.{◌≡◌, ℕ, ◌+◌, ◌<◌, Bool, true, ◌&&◌, List, [], ◌∷◌, map, refl}
use Rattle.std.specs.List.{AllByRecursion}
use Rattle.std.proofs.lemmas.Bool.{and_parts, and_from, ltb-true, lt-ltb}
use Rattle.tta_circuit.specs.Circuit.{Expr, Const, Signal, Slice, Join, Select, Not, Both, Either, Equal, Below, Plus, Minus, Times, BitAnd, BitOr, BitXor, Left, Right, Read, Apply}
use Rattle.tta_circuit.specs.Order.{reads_below}
use Rattle.tta_hardware.specs.Chains.{any_of, first_of, pick_from}

-- ---- of two kinds

module _ {N M : Type 0} (r s t : N → ℕ) (j k l : ℕ) (less : (n : N) → r n < j → s n < k → t n < l) where
  pair : (a b : Expr N M) → (reads_below r j a && reads_below r j b) ≡ true → (reads_below s k a && reads_below s k b) ≡ true
      → (reads_below r j a ≡ true → reads_below s k a ≡ true → reads_below t l a ≡ true)
      → (reads_below r j b ≡ true → reads_below s k b ≡ true → reads_below t l b ≡ true)
      → (reads_below t l a && reads_below t l b) ≡ true
  pair a b g h of_a of_b =
      let p = and_parts (reads_below r j a) (reads_below r j b) g in
      let q = and_parts (reads_below s k a) (reads_below s k b) h in
      and_from (reads_below t l a) (reads_below t l b) (of_a p.0 q.0) (of_b p.1 q.1)

  pub meets : (e : Expr N M) → reads_below r j e ≡ true → reads_below s k e ≡ true → reads_below t l e ≡ true
  meets (Const width word) g h = refl
  meets (Signal n) g h = lt-ltb (t n) l (less n (ltb-true (r n) j g) (ltb-true (s n) k h))
  meets (Slice low width e) g h = meets e g h
  meets (Join width high low) g h = pair high low g h (meets high) (meets low)
  meets (Select test on off) g h =
      let p = and_parts (reads_below r j test) (reads_below r j on && reads_below r j off) g in
      let q = and_parts (reads_below s k test) (reads_below s k on && reads_below s k off) h in
      and_from (reads_below t l test) (reads_below t l on && reads_below t l off) (meets test p.0 q.0)
      (pair on off p.1 q.1 (meets on) (meets off))
  meets (Not e) g h = meets e g h
  meets (Both a b) g h = pair a b g h (meets a) (meets b)
  meets (Either a b) g h = pair a b g h (meets a) (meets b)
  meets (Equal a b) g h = pair a b g h (meets a) (meets b)
  meets (Below a b) g h = pair a b g h (meets a) (meets b)
  meets (Plus width a b) g h = pair a b g h (meets a) (meets b)
  meets (Minus width a b) g h = pair a b g h (meets a) (meets b)
  meets (Times width a b) g h = pair a b g h (meets a) (meets b)
  meets (BitAnd a b) g h = pair a b g h (meets a) (meets b)
  meets (BitOr a b) g h = pair a b g h (meets a) (meets b)
  meets (BitXor a b) g h = pair a b g h (meets a) (meets b)
  meets (Left width a by) g h = pair a by g h (meets a) (meets by)
  meets (Right a by) g h = pair a by g h (meets a) (meets by)
  meets (Read m address) g h = meets address g h
  meets (Apply op a b) g h = pair a b g h (meets a) (meets b)

-- ---- over lists

module _ {N M : Type 0} (rank : N → ℕ) (k : ℕ) where
  abbrev reads : Expr N M → Bool
  reads e = reads_below rank k e

  pub any_reads : {A : Type 0} (f : A → Expr N M) (xs : List A) → AllByRecursion (λ x. reads_below rank k (f x) ≡ true) xs
      → reads_below rank k (any_of (map f xs)) ≡ true
  any_reads f [] all = refl
  any_reads f (x ∷ xs) all = and_from (reads (f x)) (reads (any_of (map f xs))) all.0 (any_reads f xs all.1)

  pub select_reads : (a b c : Expr N M) → reads_below rank k a ≡ true → reads_below rank k b ≡ true → reads_below rank k c ≡ true
      → reads_below rank k (Select a b c) ≡ true
  select_reads a b c p q r = and_from (reads a) (reads b && reads c) p (and_from (reads b) (reads c) q r)

  pub first_reads : (cs : List (Expr N M × Expr N M)) (other : Expr N M)
      → AllByRecursion (λ c. (reads_below rank k c.0 ≡ true) × (reads_below rank k c.1 ≡ true)) cs → reads_below rank k other ≡ true
      → reads_below rank k (first_of cs other) ≡ true
  first_reads [] other all rest = rest
  first_reads (c ∷ cs) other all rest = select_reads c.0 c.1 (first_of cs other) all.0.0 all.0.1 (first_reads cs other all.1 rest)

  pub pick_reads : {A : Type 0} (width j : ℕ) (code : Expr N M) (f : A → Expr N M) (xs : List A) (other : Expr N M)
      → reads_below rank k code ≡ true → AllByRecursion (λ x. reads_below rank k (f x) ≡ true) xs → reads_below rank k other ≡ true
      → reads_below rank k (pick_from width code j (map f xs) other) ≡ true
  pick_reads width j code f [] other coded all rest = rest
  pick_reads width j code f (x ∷ xs) other coded all rest =
      select_reads (Equal code (Const width j)) (f x) (pick_from width code (j + 1) (map f xs) other)
      (and_from (reads code) true coded refl) all.0 (pick_reads width (j + 1) code f xs other coded all.1 rest)
