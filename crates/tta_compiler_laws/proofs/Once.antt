-- Blocks, liveness and homes of a program are there once.
use Rattle.std.proofs.Common.{◌≡◌, ◌<◌, ◌≤◌, inl, inr, ℕ, zero, suc, List, [], ◌∷◌, Some, refl, sym, ap, subst, ◌∙◌, arith, slice_get}
use Rattle.std.specs.Prelude.{◌↔◌}
use Rattle.tta_compiler_laws.specs.Cited.{Proc, Block, StandsBefore, IsFlow, live_before, live_after, Interval, Home, Slot, IsBefore, AreTaken, scan, home_of}
use Rattle.tta_compiler_laws.specs.Once.{OneFlow, OneLiveness, OneSlots}
use Rattle.tta_alloc.proofs.TurnLemmas.{never_before}
use Rattle.tta_list.proofs.Tests.{same_bool, some_same}

-- ---- lists in a strict order

-- a list stands in an order
abbrev Rises : {A : Type 0} → (A → A → Type 0) → List A → Type 0
Rises {A} R xs = (j k : ℕ) (a b : A) → j < k → slice_get xs j ≡ Some a → slice_get xs k ≡ Some b → R a b

-- all elements of a list are in another
abbrev AreIn : {A : Type 0} → List A → List A → Type 0
AreIn {A} xs ys = (k : ℕ) (a : A) → slice_get xs k ≡ Some a → (j : ℕ) × (slice_get ys j ≡ Some a)

-- where two lists in an order have the same elements they are one
module _ {A : Type 0} (R : A → A → Type 0) (strict : (a b : A) → R a b → R b a → ⊥) where
  not_self : (a : A) → R a a → ⊥
  not_self a r = strict a a r r

  tail_in : (x y : A) (xs ys : List A) → x ≡ y → Rises R (x ∷ xs) → AreIn (x ∷ xs) (y ∷ ys) → AreIn xs ys
  tail_in x y xs ys same rises are k a e = on (are (suc k) a e) where
    on : (j : ℕ) × (slice_get (y ∷ ys) j ≡ Some a) → (j : ℕ) × (slice_get ys j ≡ Some a)
    on (zero, f) =
        let here : y ≡ a = cc in
        absurd (not_self x (subst (R x) (sym (same ∙ here)) (rises 0 (suc k) x a (omega arith) refl e)))
    on (suc j, f) = (j, f)

  tail_rises : (x : A) (xs : List A) → Rises R (x ∷ xs) → Rises R xs
  tail_rises x xs rises j k a b lt e f = rises (suc j) (suc k) a b (omega arith) e f

  heads : (x y : A) (xs ys : List A) → Rises R (x ∷ xs) → Rises R (y ∷ ys)
      → (j : ℕ) × (slice_get (y ∷ ys) j ≡ Some x) → (k : ℕ) × (slice_get (x ∷ xs) k ≡ Some y) → x ≡ y
  heads x y xs ys r s (zero, e) f = let same : y ≡ x = cc in sym same
  heads x y xs ys r s (suc j, e) (zero, f) = cc
  heads x y xs ys r s (suc j, e) (suc k, f) =
      absurd (strict x y (r 0 (suc k) x y (omega arith) refl f) (s 0 (suc j) y x (omega arith) refl e))

  pub one_order : (xs ys : List A) → Rises R xs → Rises R ys → AreIn xs ys → AreIn ys xs → xs ≡ ys
  one_order [] [] r s a b = refl
  one_order [] (y ∷ ys) r s a b = absurd (let t = b 0 y refl in none t.0 y t.1) where
    none : (k : ℕ) (z : A) → slice_get [] k ≡ Some z → ⊥
    none k z e = cc
  one_order (x ∷ xs) [] r s a b = absurd (let t = a 0 x refl in none t.0 x t.1) where
    none : (k : ℕ) (z : A) → slice_get [] k ≡ Some z → ⊥
    none k z e = cc
  one_order (x ∷ xs) (y ∷ ys) r s a b =
      let same = heads x y xs ys r s (a 0 x refl) (b 0 y refl) in
      let rest = one_order xs ys (tail_rises x xs r) (tail_rises y ys s) (tail_in x y xs ys same r a) (tail_in y x ys xs (sym same) s b) in
      ap (λ z. z ∷ xs) same ∙ ap (λ zs. y ∷ zs) rest

-- ---- blocks

-- one block that ends where or after it begins stands before another
abbrev Precedes : Block → Block → Type 0
Precedes a b = StandsBefore a b × ((a.first ≤ a.last) × (b.first ≤ b.last))

never_both : (a b : Block) → a.first ≤ a.last → b.first ≤ b.last → StandsBefore a b → StandsBefore b a → ⊥
never_both a b la lb (inl e) (inl f) = omega (arith, e, f)
never_both a b la lb (inl e) (inr f) = let o = f.0 in omega (arith, e, o)
never_both a b la lb (inr e) (inl f) = let o = e.0 in omega (arith, f, o)
never_both a b la lb (inr e) (inr f) = let x = e.1 in let y = f.1 in omega (arith, x, y, la, lb)

pub one_flow : OneFlow
one_flow p a b flow other =
    one_order Precedes (λ x y e f. never_both x y e.1.0 e.1.1 e.0 f.0) a b (rises a flow) (rises b other)
    (λ k x e. other.whole x (flow.sound k x e)) (λ k x e. flow.whole x (other.sound k x e)) where
      rises : (bs : List Block) → IsFlow p bs → Rises Precedes bs
      rises bs is j k x y lt e f = (is.rising j k x y lt e f, ((is.sound j x e).block.within, (is.sound k y f).block.within))

-- ---- liveness

pub one_liveness : OneLiveness
one_liveness p k l live other owner step x q there small = (
  same_bool (live_before k owner step x) (live_before l owner step x)
      (λ e. (other.before owner step x q there small).1 ((live.before owner step x q there small).0 e))
      (λ e. (live.before owner step x q there small).1 ((other.before owner step x q there small).0 e)),
  same_bool (live_after k owner step x) (live_after l owner step x)
      (λ e. (other.after owner step x q there small).1 ((live.after owner step x q there small).0 e))
      (λ e. (live.after owner step x q there small).1 ((other.after owner step x q there small).0 e)),
)

-- ---- homes

one_taken : (q : Proc) (a b : List Interval) → AreTaken q a → AreTaken q b → a ≡ b
one_taken q a b are other =
    one_order IsBefore never_before a b are.rising other.rising (λ k x e. other.whole x (are.sound k x e)) (λ k x e. are.whole x (other.sound k x e))

-- two homes of a list by one number are one
home_is : (answer : List Home) (x : ℕ) (home : Home) → slice_get answer x ≡ Some home → (slice_get answer x ≡ Some (Slot x)) ↔ (home ≡ Slot x)
home_is answer x home e = (λ f. some_same (sym e ∙ f), λ f. e ∙ ap (λ (z : Home). Some z) f)

pub one_slots : OneSlots
one_slots p homes h k is other owner x q there small =
    let s = is.allotted owner q there in
    let t = other.allotted owner q there in
    let a = s.1.0.scanned in
    let b = t.1.0.scanned in
    let scans : s.1.0.first ≡ t.1.0.first = a.is ∙ ap (scan homes q.vars) (one_taken q a.taken b.taken a.are b.are) ∙ sym b.is in
    let here = home_is s.0 x (home_of h owner x) (s.1.1 x small) in
    let that = home_is t.0 x (home_of k owner x) (t.1.1 x small) in
    let m = s.1.0.slots x small in
    let n = t.1.0.slots x small in
    let over = ap (λ (l : List Home). slice_get l x) scans in
    (λ e. that.0 (n.1 (sym over ∙ m.0 (here.1 e))), λ e. here.0 (m.1 (over ∙ n.0 (that.1 e))))
