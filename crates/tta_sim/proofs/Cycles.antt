-- What a cycle leaves that faults.
use Rattle.std.proofs.Common.{◌≡◌, ℕ, ◌+◌, Option, Some, refl, sym, ◌∙◌, subst, arith}
use Rattle.std.specs.Prelude.{is_some}
use Rattle.tta_sim.specs.Cited.{Units}
use Rattle.tta_sim.specs.declared.cycle_step.CycleStep.{CycleStep}
use Rattle.tta_sim.specs.declared.cycle_step.CycleStep.TheVariants.{Fault as Faults}
use Rattle.tta_sim.specs.declared.control.Control.{Control}
use Rattle.tta_sim.specs.declared.control.Phase.TheVariants as phase
use Rattle.tta_sim.specs.declared.decoded.Line.{Line}
use Rattle.tta_sim.specs.declared.results.Part.{Part}
use Rattle.tta_sim.specs.Results.{Results, results_at}
use Rattle.tta_sim.specs.Unset.{IsFaultOf}
use Rattle.tta_sim.specs.Kept.{Kept, kept_as, IsCycle}
use Rattle.tta_sim.proofs.Acting.{carried_fault}
use Rattle.tta_sim.proofs.Growing.{words_same}
use Rattle.tta_sim.proofs.Owning.{others_same}

at_fault : (U : Units) (part : Part) (delay : ℕ) (line : Line) (next : Option ℕ) (old : Kept) (r : Results) (fault : Option ℕ) (number : ℕ)
    → r ≡ results_at part old.region → IsFaultOf old.store.places r (is_some old.control.pending) line fault → fault ≡ Some number
    → IsCycle U part delay line next old (kept_as old.store (record old.control { phase = phase.Fault number }) old.region) (Faults number)
at_fault U part delay line next old r fault number r_is is_fault is = record {
  carried = λ m i lines s decoded size delay_is same fed.
      let here = subst (λ r. IsFaultOf old.store.places r (is_some old.control.pending) line fault) r_is is_fault in
      carried_fault U m decoded.rules i decoded.legal lines old.store (results_at part old.region) old.control s size same number
      (sym (here m (old.control.pc + 1 + delay) i decoded size) ∙ is);
  takes = refl;
  counted = omega arith;
  memory = refl;
  frame = refl;
  waits = λ lines is. cc;
  stays = λ is. cc;
  others = others_same part old.region;
  words = words_same old.store.places (results_at part old.region);
}

-- the run stays as it is, but for its phase
pub faulted : (U : Units) (part : Part) (delay : ℕ) (line : Line) (next : Option ℕ) (old : Kept) (r : Results) (fault : Option ℕ) (number : ℕ)
    (control : Control) (answer : CycleStep) → r ≡ results_at part old.region → IsFaultOf old.store.places r (is_some old.control.pending) line fault
    → fault ≡ Some number → control ≡ record old.control { phase = phase.Fault number } → answer ≡ Faults number
    → IsCycle U part delay line next old (kept_as old.store control old.region) answer
faulted U part delay line next old r fault number control answer r_is is_fault is stopped answered =
    subst (λ a. IsCycle U part delay line next old (kept_as old.store control old.region) a) (sym answered)
    (subst (λ k. IsCycle U part delay line next old (kept_as old.store k old.region) (Faults number)) (sym stopped)
    (at_fault U part delay line next old r fault number r_is is_fault is))
