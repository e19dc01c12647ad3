-- Slots of different procedures differ.
use Rattle.std.proofs.Common.{◌≡◌, ◌<◌, ◌≤◌, ◌+◌, ◌∷◌, [], ℕ, List, Some, zero, suc, slice_get, refl, ap, arith, inl, inr}
use Rattle.std.proofs.lemmas.Bool.{cases_order}
use Rattle.tta_lower.specs.Cited.{Proc, Program}
use Rattle.tta_lower.specs.Layout.{vars_of, own, slots_before, base, size, InFrame}

-- the slots of a procedure end before those of a later one
rises : (p : Program) (from a b : ℕ) (q : Proc) (qs : List Proc) → a < b → slice_get qs a ≡ Some q
    → slots_before p from a qs + own p (from + a) + q.vars ≤ slots_before p from b qs
rises p from a b q [] lt is = cc
rises p from a zero q (t ∷ ts) lt is = absurd (omega arith)
rises p from zero (suc b) q (t ∷ ts) lt is =
    let same : t ≡ q = cc in
    let vars : t.vars ≡ q.vars = ap (λ x. x.vars) same in
    let zero_more : own p (from + 0) ≡ own p from = ap (own p) (omega arith) in
    omega arith
rises p from (suc a) (suc b) q (t ∷ ts) lt is =
    let later = rises p (from + 1) a b q ts (omega arith) is in
    let same : own p (from + 1 + a) ≡ own p (from + suc a) = ap (own p) (omega arith) in
    omega arith

-- frames stand one after the other
pub frames-rise : (p : Program) (a b : ℕ) (q : Proc) → a < b → slice_get p.procs a ≡ Some q → base p a + size p a ≤ base p b
unfolding base
frames-rise p a b q lt is =
    let h = rises p 0 a b q p.procs lt is in
    let vars : vars_of p a ≡ q.vars = rw is refl in
    let first : base p a ≡ slots_before p 0 a p.procs = refl in
    let second : base p b ≡ slots_before p 0 b p.procs = refl in
    let same : own p (0 + a) ≡ own p a = ap (own p) (omega arith) in
    omega (arith, h, vars, first, second, same)

-- a slot is in one frame alone
pub one-frame : (p : Program) (a b slot : ℕ) (q t : Proc) → slice_get p.procs a ≡ Some q → slice_get p.procs b ≡ Some t
    → InFrame p a slot → InFrame p b slot → a ≡ b
one-frame p a b slot q t is there in_a in_b = elim (cases_order a b) as (λ c. a ≡ b) [
  | inl e ↦ e
  | inr (inl lt) ↦ absurd (omega (arith, frames-rise p a b q lt is, in_a.1, in_b.0))
  | inr (inr gt) ↦ absurd (omega (arith, frames-rise p b a t gt there, in_b.1, in_a.0))
]
