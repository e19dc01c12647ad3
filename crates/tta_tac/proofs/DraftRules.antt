-- Each line keeps the rules of a draft.
use Rattle.tta_list.proofs.Tests.{none_from_is_some}
use Rattle.std.proofs.Common.{◌≡◌, ℕ, sym, ◌+◌, Bool, true, false, [], ◌∷◌, subst, arith, length-append}
use Rattle.std.specs.Prelude.{Option, Some, None, Result, Ok, Err}
use Rattle.std.specs.Option.{IfSome, option_map_or}
use Rattle.std.specs.Result.{OnOk}
use Rattle.tta_tac.specs.Cited.{LineError, Takes, Units}
use Rattle.tta_tac.specs.declared.draft.DraftProc.{DraftProc}
use Rattle.tta_tac.specs.Forms.{Form}
use Rattle.tta_tac.specs.Draft.{ProcDraft, Draft, proc_seen}
use Rattle.tta_tac.specs.DraftRules.{IsBegun, IsDraft}
use Rattle.tta_tac.specs.FirstPass.{vars_after, is_end, close_if, with_step, take_step, take_form, with_fresh, with_datum}
use Rattle.tta_tac.specs.declared.refusal.Refusal.{Refusal}
use Rattle.tta_tac.proofs.VariableLists.{numbered_length}
use Rattle.tta_tac.proofs.Taken.{with_label, StepTaken, step_taken, Taken, ProcBegins, DatumIsLaid, LabelIsPut, StepIsMade, form_taken}

-- a step of a begun procedure, which may have been moved out of the draft
step_kept : (u : Units) (d e : Draft) (q : ProcDraft) (line : ℕ) (f : Form) → IsDraft d → IsBegun d.lines q → StepTaken u d e q line f → IsDraft e
step_kept u d e q line f kept begun t = subst IsDraft t.made (by (is_end f)) where
  new : ProcDraft
  new = with_step q (vars_after q.vars f) t.step line

  by : (ends : Bool) → IsDraft (close_if ends (record d { lines = d.lines + 1 }) (with_step q (vars_after q.vars f) t.step line))
  by true = let size = length-append d.procs (new ∷ []) in record { lines = omega (arith, t.room); procs = omega (arith, kept.procs); begun = tt }
  by false =
      let size = length-append q.steps (t.step ∷ []) in
      record { lines = omega (arith, t.room); procs = omega (arith, kept.procs); begun = record { steps = omega (arith, begun.steps); vars = t.few } }

-- a line that is not blank
taken_kept : (u : Units) (d e : Draft) (line : ℕ) (f : Form) → IsDraft d → Taken u d e line f → IsDraft e
taken_kept u d e line f kept (ProcBegins name params is t) =
    let size = numbered_length 0 params in
    let rules : IsDraft (with_fresh d line name params) = record {
      lines = omega (arith, t.room);
      procs = omega (arith, kept.procs);
      begun = record { steps = omega arith; vars = omega (arith, t.few) };
    } in
    subst IsDraft t.made rules
taken_kept u d e line f kept (DatumIsLaid address value is t) =
    let none = none_from_is_some d.begun t.closed in
    let rules : IsDraft (with_datum d (record { address = address; value = value; line = line })) = record {
      lines = omega (arith, t.room);
      procs = omega (arith, kept.procs);
      begun = subst (λ o. IfSome o (IsBegun (d.lines + 1))) (sym none) tt;
    } in
    subst IsDraft t.made rules
taken_kept u d e line f kept (LabelIsPut q name is says t) =
    let begun : IsBegun d.lines q = subst (λ o. IfSome o (IsBegun d.lines)) is kept.begun in
    let rules : IsDraft (record d { begun = Some (with_label q name); lines = d.lines + 1 }) = record {
      lines = omega (arith, t.room);
      procs = omega (arith, kept.procs);
      begun = record { steps = omega (arith, begun.steps); vars = begun.vars };
    } in
    subst IsDraft t.made rules
taken_kept u d e line f kept (StepIsMade q is t) = step_kept u d e q line f kept (subst (λ o. IfSome o (IsBegun d.lines)) is kept.begun) t

-- ---- of the code's results

module _ {A : Type 0} where
  -- where a result says what a line does, an accepted line keeps the rules
  pub form_says_kept : (u : Units) (d e : Draft) (line : ℕ) (f : Form) (r : Result A (LineError Refusal)) → IsDraft d
      → Takes e r (take_form u d line f) → OnOk r (IsDraft e)
  form_says_kept u d e line f (Ok x) kept says = taken_kept u d e line f kept (form_taken u d e line f says)
  form_says_kept u d e line f (Err x) kept says = tt

  -- the same of a step, of a begun procedure that was moved out of the draft
  pub step_says_kept : (u : Units) (d e : Draft) (q : ProcDraft) (line : ℕ) (f : Form) (r : Result A (LineError Refusal)) → IsDraft d
      → IsBegun d.lines q → Takes e r (take_step u d q line f) → OnOk r (IsDraft e)
  step_says_kept u d e q line f (Ok x) kept begun says = step_kept u d e q line f kept begun (step_taken u d e q line f says)
  step_says_kept u d e q line f (Err x) kept begun says = tt

-- a draft out of which the begun procedure was moved
pub moved_kept : (d : Draft) → IsDraft d → IsDraft (record d { begun = None })
moved_kept d kept = record { lines = kept.lines; procs = kept.procs; begun = tt }

-- the begun procedure that was moved out
pub begun_of : (o : Option DraftProc) (q : DraftProc) (lines : ℕ)
    → IfSome (option_map_or (λ p. Some (proc_seen p)) o None) (IsBegun lines) → o ≡ Some q → IsBegun lines (proc_seen q)
begun_of None q lines kept e = cc
begun_of (Some p) q lines kept e = let same : p ≡ q = cc in subst (λ x. IsBegun lines (proc_seen x)) same kept
