-- A call, as the calls are kept.
use Rattle.std.proofs.Common.{◌≡◌, ◌<◌, ◌≤◌, ℕ, List, [], ◌∷◌, ◌++◌, length, map, get_or, set, ap, ◌∙◌, arith, length-set}
use Rattle.std.proofs.lemmas.List.{length-map}
use Rattle.tta_tacrun.specs.Cited.{Src, operand}
use Rattle.tta_tacrun.specs.Calls.{IsFresh, AreKept, begun, calls_of}
use Rattle.tta_tacrun.specs.declared.entry.Entry.{Entry}
use Rattle.tta_tacrun.proofs.Kept.{kept_enter, kept_fresh, calls_enter, length_at}
use Rattle.tta_tacrun.proofs.Passed.{length-begun}

-- the variables that a procedure begins with, as they are kept
abbrev pub passed : List (List ℕ) → Entry → (callee : ℕ) → List Src → List ℕ
passed vs top callee args = begun (map (operand (get_or vs top.proc [])) args) (length (get_or vs callee []))

module _ (vs : List (List ℕ)) (top : Entry) (callers : List Entry) (capacity callee : ℕ) (kept : AreKept vs top callers capacity)
    (there : callee < length (map length vs)) (fresh : IsFresh callee (calls_of vs top callers)) where
  pub entered_kept : (new_vs : List (List ℕ)) (more : List Entry) (new_capacity : ℕ) (vars : List ℕ)
      → new_vs ≡ set vs callee vars → more ≡ callers ++ top ∷ [] → new_capacity ≡ capacity
      → AreKept new_vs (record { proc = callee; at = 0 }) more new_capacity
  entered_kept new_vs more new_capacity vars new pushed same_capacity =
      let in_place : callee < length vs = omega (arith, length-map vs (length {A = ℕ})) in
      kept_enter vs new_vs top (record { proc = callee; at = 0 }) callers more capacity new_capacity
      (ap length new ∙ length-set vs callee vars) pushed same_capacity in_place (kept_fresh vs top callers callee fresh) kept

  pub entered_calls : (new_vs : List (List ℕ)) (more : List Entry) (args : List Src)
      → length args ≤ get_or (map length vs) callee 0
      → new_vs ≡ set vs callee (passed vs top callee args) → more ≡ callers ++ top ∷ []
      → calls_of new_vs (record { proc = callee; at = 0 }) more
      ≡ record (calls_of vs top callers) {
        top = record { proc = callee; at = 0; vars = begun (map (operand (calls_of vs top callers).top.vars) args) (get_or (map length vs) callee 0) };
        below = (calls_of vs top callers).top ∷ (calls_of vs top callers).below;
      }
  entered_calls new_vs more args fit new pushed =
      let in_place : callee < length vs = omega (arith, length-map vs (length {A = ℕ})) in
      let words = map (operand (get_or vs top.proc [])) args in
      let size = length (get_or vs callee []) in
      let room : length words ≤ size = omega (arith, fit, length_at vs callee, length-map args (operand (get_or vs top.proc []))) in
      rw (new, pushed, length_at vs callee)
      (calls_enter vs top callers callee (passed vs top callee args) in_place (kept_fresh vs top callers callee fresh) (length-begun words size room))
