-- The slots of procedures, one after another.
use Rattle.std.proofs.Common.{◌≡◌, ◌<◌, ◌≤◌, ℕ, zero, suc, ◌+◌, ◌-◌, List, [], ◌∷◌, drop, length, get_or, refl, sym, ap, ◌∙◌, arith}
use Rattle.std.proofs.Math.ListN.{drop_of_length-le}
use Rattle.std.proofs.lemmas.List.{drop_more}
use Rattle.tta_origins.specs.Cited.{Program, Proc, own, slots_before}

-- those of one procedure more, before which some are left
pub slots_more : (p : Program) (qs : List Proc) (k owner slots own_slots vars all : ℕ) (q : Proc) → k < length qs → q ≡ get_or qs k q → k < owner
    → own_slots ≡ own p k → vars ≡ q.vars → slots + slots_before p k (owner - k) (drop k qs) ≡ all
    → slots + (own_slots + vars) + slots_before p (k + 1) (owner - (k + 1)) (drop (k + 1) qs) ≡ all
slots_more p qs k owner slots own_slots vars all q low is below own_is vars_is was =
    let n : owner - k ≡ suc (owner - (k + 1)) = omega arith in
    let left : drop k qs ≡ q ∷ drop (k + 1) qs = drop_more qs k q low ∙ ap (λ (x : Proc). x ∷ drop (k + 1) qs) (sym is) in
    let here : slots_before p k (owner - k) (drop k qs) ≡ own p k + q.vars + slots_before p (k + 1) (owner - (k + 1)) (drop (k + 1) qs) =
    ap (λ i. slots_before p k i (drop k qs)) n ∙ ap (slots_before p k (suc (owner - (k + 1)))) left in
    omega (arith, here, own_is, vars_is, was)

-- there are no more procedures
before_none : (p : Program) (k n : ℕ) → slots_before p k n [] ≡ 0
before_none p k zero = refl
before_none p k (suc n) = refl

pub slots_all : (p : Program) (qs : List Proc) (k owner slots all : ℕ) → length qs ≤ k → slots + slots_before p k (owner - k) (drop k qs) ≡ all → slots ≡ all
slots_all p qs k owner slots all past was =
    let end = drop_of_length-le qs past in
    let here : slots_before p k (owner - k) (drop k qs) ≡ 0 = ap (slots_before p k (owner - k)) end ∙ before_none p k (owner - k) in
    omega (arith, here, was)
