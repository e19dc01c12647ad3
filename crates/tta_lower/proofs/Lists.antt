-- Members of lists, and where they stand.
use Rattle.std.proofs.Common.{◌≡◌, ◌≢◌, ◌<◌, ◌≤◌, ◌+◌, ◌==◌, ◌++◌, ◌∷◌, [], ℕ, zero, suc, Bool, List, Some, true, false, length, filter, slice_get, refl, sym, ap, ◌∙◌, subst, arith, inl, inr}
use Rattle.std.specs.List.{flat_map, list_any}
use Rattle.std.proofs.lemmas.Bool.{eq-eqb, eqb-true, cases_eq, or_left, or_right, lt-ltb, le-ltb, cases_order}
use Rattle.std.proofs.lemmas.List.Concat.{flat_map-append}
use Rattle.std.proofs.lemmas.Option.{same_Some}
use Rattle.tta_list.proofs.Lists.{slice_get-back, slice_get-longer}
use Rattle.tta_lower.specs.Cited.{Program}
use Rattle.tta_lower.specs.Liveness.{Block}
pub use Rattle.tta_lower.specs.Members.{In}
use Rattle.tta_lower.specs.Lower.{numbers, procs_before, spans_before, EndsBefore, InOrder}

-- a value at a place is one of the list
pub has-in : {A : Type 0} (xs : List A) (k : ℕ) (x : A) → slice_get xs k ≡ Some x → In x xs
has-in [] k x is = cc
has-in (y ∷ ys) zero x is = inl (same_Some x y (sym is))
has-in (y ∷ ys) (suc k) x is = inr (has-in ys k x is)

-- a value that passes stays
pub in-filter : {A : Type 0} (t : A → Bool) (xs : List A) (x : A) → In x xs → t x ≡ true → In x (filter t xs)
in-filter t [] x is passes = absurd is
in-filter t (y ∷ ys) x (inl e) passes = rw (ap t (sym e) ∙ passes) (inl e)
in-filter t (y ∷ ys) x (inr more) passes = by (t y) refl (in-filter t ys x more passes) where
  by : (b : Bool) → t y ≡ b → In x (filter t ys) → In x (filter t (y ∷ ys))
  by true is rest = rw is (inr rest)
  by false is rest = rw is rest

-- a value of a list has a place
pub in-has : {A : Type 0} (xs : List A) (x : A) → In x xs → (k : ℕ) × (slice_get xs k ≡ Some x)
in-has [] x is = absurd is
in-has (y ∷ ys) x (inl e) = (0, ap Some (sym e))
in-has (y ∷ ys) x (inr more) = (suc (in-has ys x more).0, (in-has ys x more).1)

-- a value that stayed is there and passes
pub filter-in : {A : Type 0} (t : A → Bool) (xs : List A) (x : A) → In x (filter t xs) → In x xs × (t x ≡ true)
filter-in t [] x is = absurd is
filter-in t (y ∷ ys) x is = by (t y) refl (filter-in t ys x) is where
  kept : (t y ≡ true) → In x (y ∷ filter t ys) → (In x (filter t ys) → In x ys × (t x ≡ true)) → In x (y ∷ ys) × (t x ≡ true)
  kept passes (inl e) more = (inl e, ap t e ∙ passes)
  kept passes (inr is) more = (inr (more is).0, (more is).1)

  by : (b : Bool) → t y ≡ b → (In x (filter t ys) → In x ys × (t x ≡ true)) → In x (filter t (y ∷ ys)) → In x (y ∷ ys) × (t x ≡ true)
  by true passes more is = kept passes (rw passes at is) more
  by false fails more is =
      let there : In x (filter t ys) = rw fails at is in
      (inr (more there).0, (more there).1)

-- numbers are below their end
pub numbers-below : (from n k : ℕ) → In k (numbers from n) → k < from + n
numbers-below from zero k is = absurd is
numbers-below from (suc n) k (inl e) = omega (arith, e)
numbers-below from (suc n) k (inr more) =
    let rest = numbers-below (from + 1) n k more in
    omega (arith, rest)

-- a value that passes is found
pub in-any : {A : Type 0} (t : A → Bool) (xs : List A) (x : A) → In x xs → t x ≡ true → list_any t xs ≡ true
in-any t [] x is passes = absurd is
in-any t (y ∷ ys) x (inl e) passes = or_left (t y) (list_any t ys) (ap t (sym e) ∙ passes)
in-any t (y ∷ ys) x (inr more) passes = or_right (t y) (list_any t ys) (in-any t ys x more passes)

-- a number between the ends is one of them
pub in-numbers : (from n k : ℕ) → from ≤ k → k < from + n → In k (numbers from n)
in-numbers from zero k lo hi = absurd (omega (arith, lo, hi))
in-numbers from (suc n) k lo hi = elim (cases_eq k from) as (λ c. In k (numbers from (suc n))) [
  | inl e ↦ inl e
  | inr ne ↦ inr (in-numbers (from + 1) n k (next k from lo ne) (omega (arith, hi)))
] where
  next : (k from : ℕ) → from ≤ k → k ≢ from → from + 1 ≤ k
  next k from lo ne = elim (cases_order k from) as (λ c. from + 1 ≤ k) [
    | inl e ↦ absurd (ne e)
    | inr (inl l) ↦ absurd (omega (arith, lo, l))
    | inr (inr g) ↦ omega (arith, g)
  ]

-- ---- what stands after a prefix

-- a value of a flat list stands after what comes before it
pub part-at : {A B : Type 0} (f : A → List B) (xs ys zs : List A) (x : A) (j : ℕ) (y : B) → xs ≡ ys ++ x ∷ zs → slice_get (f x) j ≡ Some y
    → slice_get (flat_map f xs) (length (flat_map f ys) + j) ≡ Some y
part-at f xs ys zs x j y split is =
    ap (λ l. slice_get l (length (flat_map f ys) + j)) (ap (flat_map f) split ∙ flat_map-append f ys (x ∷ zs))
    ∙ slice_get-back (flat_map f ys) (flat_map f (x ∷ zs)) j
    ∙ slice_get-longer (f x) (flat_map f zs) j y is

module _ (p : Program) (blocks : List Block) (live_first : (owner x : ℕ) → Bool) where
  -- a procedure divides the list of procedures
  pub procs-split : (owner : ℕ) (os : List ℕ) → In owner os → (zs : List ℕ) × (os ≡ procs_before p blocks live_first owner os ++ owner ∷ zs)
  procs-split owner [] is = absurd is
  procs-split owner (o ∷ os) (inl e) = (os, rw (eq-eqb o owner (sym e)) (ap (λ x. x ∷ os) (sym e)))
  procs-split owner (o ∷ os) (inr more) = by (o == owner) refl (procs-split owner os more) where
    by : (b : Bool) → (o == owner) ≡ b → (zs : List ℕ) × (os ≡ procs_before p blocks live_first owner os ++ owner ∷ zs)
        → (zs : List ℕ) × (o ∷ os ≡ procs_before p blocks live_first owner (o ∷ os) ++ owner ∷ zs)
    by true same rest = (os, rw same (ap (λ x. x ∷ os) (eqb-true o owner same)))
    by false other rest = (rest.0, rw other (ap (λ l. o ∷ l) rest.1))

  -- ---- blocks in order

  -- a block ends before those after it begin
  ends-before : (b c : Block) (cs : List Block) → EndsBefore b cs → In c cs → b.last < c.first
  ends-before b c [] ends is = absurd is
  ends-before b c (d ∷ cs) ends (inl e) = subst (λ x. b.last < x.first) (sym e) ends.0
  ends-before b c (d ∷ cs) ends (inr more) = ends-before b c cs ends.1 more

  -- none of the blocks after one ends before the step after it
  none-before : (b : Block) (cs : List Block) (at : ℕ) → ((c : Block) → In c cs → c.first ≤ c.last) → EndsBefore b cs → at ≤ b.last + 1
      → spans_before p blocks live_first at cs ≡ []
  none-before b [] at rises ends le = refl
  none-before b (c ∷ cs) at rises ends le =
      let not_before = le-ltb c.last at (omega (arith, ends.0, le, rises c (inl refl))) in
      rw not_before refl

  -- the blocks before a step of a block
  pub spans-split : (bs : List Block) (b : Block) (at : ℕ) → ((c : Block) → In c bs → c.first ≤ c.last) → InOrder bs → In b bs → b.first ≤ at → at ≤ b.last
      → (zs : List Block) × (bs ≡ spans_before p blocks live_first at bs ++ b ∷ zs)
  spans-split [] b at rises order is lo hi = absurd is
  spans-split (c ∷ bs) b at rises order (inl e) lo hi =
      let last : b.last ≡ c.last = ap (λ x. x.last) e in
      (bs, rw (le-ltb c.last at (omega (arith, last, hi))) (ap (λ x. x ∷ bs) (sym e)))
  spans-split (c ∷ bs) b at rises order (inr more) lo hi =
      let rest = spans-split bs b at (λ d is. rises d (inr is)) order.1 more lo hi in
      (rest.0, rw (lt-ltb c.last at (omega (arith, ends-before c b bs order.0 more, lo))) (ap (λ l. c ∷ l) rest.1))

  -- the same for each step of a block
  pub spans-same : (bs : List Block) (b : Block) (at : ℕ) → ((c : Block) → In c bs → c.first ≤ c.last) → InOrder bs → In b bs → b.first ≤ at → at ≤ b.last
      → spans_before p blocks live_first at bs ≡ spans_before p blocks live_first b.first bs
  spans-same [] b at rises order is lo hi = absurd is
  spans-same (c ∷ bs) b at rises order (inl e) lo hi =
      let last : b.last ≡ c.last = ap (λ x. x.last) e in
      rw (le-ltb c.last at (omega (arith, last, hi)), le-ltb c.last b.first (omega (arith, last, lo, hi))) refl
  spans-same (c ∷ bs) b at rises order (inr more) lo hi =
      let far = ends-before c b bs order.0 more in
      rw (lt-ltb c.last at (omega (arith, far, lo)), lt-ltb c.last b.first far)
      (ap (λ l. c ∷ l) (spans-same bs b at (λ d is. rises d (inr is)) order.1 more lo hi))

  -- the block itself comes before the step after it
  pub spans-next : (bs : List Block) (b : Block) → ((c : Block) → In c bs → c.first ≤ c.last) → InOrder bs → In b bs
      → spans_before p blocks live_first (b.last + 1) bs ≡ spans_before p blocks live_first b.first bs ++ b ∷ []
  spans-next [] b rises order is = absurd is
  spans-next (c ∷ bs) b rises order (inl e) =
      let last : b.last ≡ c.last = ap (λ x. x.last) e in
      let first : b.first ≡ c.first = ap (λ x. x.first) e in
      rw (
        lt-ltb c.last (b.last + 1) (omega (arith, last)),
        le-ltb c.last b.first (omega (arith, first, rises c (inl refl))),
        none-before c bs (b.last + 1) (λ d is. rises d (inr is)) order.0 (omega (arith, last)),
      )
      (ap (λ x. x ∷ []) (sym e))
  spans-next (c ∷ bs) b rises order (inr more) =
      let far = ends-before c b bs order.0 more in
      rw (lt-ltb c.last (b.last + 1) (omega (arith, far, rises b (inr more))), lt-ltb c.last b.first far)
      (ap (λ l. c ∷ l) (spans-next bs b (λ d is. rises d (inr is)) order.1 more))

-- a block begins behind the end of one that ends before all others
pub begins-behind : (b : Block) (bs : List Block) (c : Block) → EndsBefore b bs → In c bs → b.last + 1 ≤ c.first
begins-behind b [] c ends is = absurd is
begins-behind b (d ∷ ds) c ends (inl e) = subst (λ x. b.last + 1 ≤ x.first) (sym e) (omega (arith, ends.0))
begins-behind b (d ∷ ds) c ends (inr is) = begins-behind b ds c ends.1 is
