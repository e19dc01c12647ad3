-- The variables of procedures, one after another.
use Rattle.std.proofs.Common.{◌≡◌, ◌<◌, ℕ, ◌+◌, List, ◌∷◌, ◌++◌, drop, length, get_or, sym, ap, ◌∙◌}
use Rattle.std.proofs.lemmas.List.{append_assoc, drop_more}
use Rattle.tta_stages.specs.Cited.{Machine, Proc, Program}
use Rattle.tta_stages.specs.declared.lowered.Lowered.{Lowered}
use Rattle.tta_stages.specs.ProgramText.{own_slots, proc_variables_text, variables_from}

-- what is left of procedures from one on
left_at : (qs : List Proc) (i : ℕ) (q : Proc) → i < length qs → q ≡ get_or qs i q → drop i qs ≡ q ∷ drop (i + 1) qs
left_at qs i q low is = drop_more qs i q low ∙ ap (λ (x : Proc). x ∷ drop (i + 1) qs) (sym is)

-- the text of one procedure more, where it has so many slots of its own and so many variables
pub proc_more : (m : Machine) (homes : List (ℕ × ℕ)) (p : Program) (r : Lowered) (qs : List Proc) (i next : ℕ) (q : Proc) (own vars : ℕ) (old new all : List ℕ)
    → i < length qs → q ≡ get_or qs i q → own ≡ own_slots p.main i → vars ≡ q.vars
    → new ≡ old ++ proc_variables_text m homes p r i q.vars (next + own)
    → old ++ variables_from m homes p r i next (drop i qs) ≡ all
    → new ++ variables_from m homes p r (i + 1) (next + own + vars) (drop (i + 1) qs) ≡ all
proc_more m homes p r qs i next q own vars old new all low is own_is vars_is more was =
    let first : next + own ≡ next + own_slots p.main i = ap (λ (x : ℕ). next + x) own_is in
    let end : next + own + vars ≡ next + own_slots p.main i + q.vars = ap (λ (x : ℕ). x + vars) first ∙ ap (λ (x : ℕ). next + own_slots p.main i + x) vars_is in
    let text : List ℕ = proc_variables_text m homes p r i q.vars (next + own_slots p.main i) in
    let rest : List ℕ = variables_from m homes p r (i + 1) (next + own_slots p.main i + q.vars) (drop (i + 1) qs) in
    ap (λ (x : ℕ). new ++ variables_from m homes p r (i + 1) x (drop (i + 1) qs)) end
    ∙ ap (λ (t : List ℕ). t ++ rest) (more ∙ ap (λ (x : ℕ). old ++ proc_variables_text m homes p r i q.vars x) first)
    ∙ append_assoc old text rest
    ∙ sym (ap (λ (xs : List Proc). old ++ variables_from m homes p r i next xs) (left_at qs i q low is)) ∙ was
