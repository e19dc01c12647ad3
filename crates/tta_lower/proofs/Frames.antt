-- What a change of a procedure's own slots leaves.
use Rattle.std.proofs.Common.{◌≡◌, ◌≢◌, ◌<◌, ◌≤◌, ◌-◌, ◌∷◌, [], ℕ, List, Some, length, replicate, slice_get, slice_index, refl, sym, ◌∙◌, subst, arith, inl, inr, length-append}
use Rattle.std.proofs.lemmas.Bool.{eq-eqb, ne_eqb, cases_lt}
use Rattle.std.proofs.lemmas.List.{length-replicate, get_or-replicate, get_or_append_left, get_or-append_right, get_or_past}
use Rattle.tta_lower.specs.Cited.{Proc, Program, IsProgram, enter, Kept}
use Rattle.tta_program.specs.Sequential.{Frame}
use Rattle.tta_lower.specs.Liveness.{Block}
use Rattle.tta_lower.specs.Layout.{vars_of, var_slot, back_slot, own, InFrame}
use Rattle.tta_lower.specs.Relation.{KeepsBack, Callers, Untouched, UntouchedFrame}
use Rattle.tta_lower.proofs.Callers.{called}

-- a variable's slot is one of its procedure's
pub var-in : (p : Program) (owner x : ℕ) → x < vars_of p owner → InFrame p owner (var_slot p owner x)
var-in p owner x lt = (omega arith, omega (arith, lt))

-- where only variables have changed, the slots of other procedures have not
pub frame-by-vars : (p : Program) (owner : ℕ) (old new : List (ℕ × Kept)) → Untouched p owner old new → UntouchedFrame p owner old new
frame-by-vars p owner old new same slot outside = same slot (λ x lt e. outside (subst (λ s. InFrame p owner s) (sym e) (var-in p owner x lt)))

-- a slot of main's is none for the return address
pub main-own : (p : Program) (owner : ℕ) → owner ≡ p.main → own p owner ≡ 0
main-own p owner e = rw (eq-eqb owner p.main e) refl

-- a procedure other than main has two slots of its own
pub other-own : (p : Program) (owner : ℕ) → owner ≢ p.main → own p owner ≡ 2
other-own p owner ne = rw (ne_eqb owner p.main ne) refl

module _ (p : Program) (sound : IsProgram p) (blocks : List Block) (number : ℕ → ℕ → ℕ) where
  -- who was called is not main
  pub not-main : (frame : List (ℕ × Kept)) (owner : ℕ) (g : Frame) (rest : List Frame) → Callers p blocks number frame owner (g ∷ rest) → owner ≢ p.main
  not-main frame owner g rest callers = (called p sound g.proc g.at owner callers.0.d callers.0.args callers.0.call).other

  -- the slot for the return address is as it was where only variables have changed
  pub back-own : (old new : List (ℕ × Kept)) (owner : ℕ) (rest : List Frame) → Callers p blocks number old owner rest → Untouched p owner old new
      → KeepsBack p blocks number old owner rest → KeepsBack p blocks number new owner rest
  back-own old new owner [] callers same back = tt
  back-own old new owner (g ∷ rest) callers same back =
      let two = other-own p owner (not-main old owner g rest callers) in
      same (back_slot p owner) (λ x lt e. absurd (omega (arith, two, e))) ∙ back

-- ---- variables of a procedure that was called

module _ (p : Program) (owner : ℕ) (args : List ℕ) (q : Proc) (is : slice_get p.procs owner ≡ Some q) (count : length args ≤ q.vars) where
  pub enter-length : length ((enter p owner args).vars) ≡ vars_of p owner
  enter-length =
      let vars : vars_of p owner ≡ q.vars = rw is refl in
      length-append args (replicate (vars_of p owner - length args) 0)
      ∙ rw (length-replicate {A = ℕ} (vars_of p owner - length args) 0) (omega (arith, vars, count))

  -- a parameter has its argument at the entry
  pub enter-arg : (x : ℕ) → x < length args → slice_index ((enter p owner args).vars) x ≡ slice_index args x
  enter-arg x lt = get_or_append_left args (replicate (vars_of p owner - length args) 0) 0 x lt

  -- any other variable is 0 at the entry
  pub enter-zero : (x : ℕ) → length args ≤ x → slice_index ((enter p owner args).vars) x ≡ 0
  enter-zero x le = get_or-append_right args (replicate (vars_of p owner - length args) 0) (length args) x 0 refl le ∙ zeros where
    zeros : slice_index (replicate (vars_of p owner - length args) 0) (x - length args) ≡ 0
    zeros = elim (cases_lt (x - length args) (vars_of p owner - length args)) as (λ c. slice_index (replicate (vars_of p owner - length args) 0) (x - length args) ≡ 0) [
      | inl lt ↦ get_or-replicate (vars_of p owner - length args) (x - length args) 0 0 lt
      | inr le ↦ get_or_past (replicate (vars_of p owner - length args) 0) (x - length args) 0 (rw (length-replicate {A = ℕ} (vars_of p owner - length args) 0) le)
    ]
