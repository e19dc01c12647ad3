-- Where files hold what `cost` tells of, and no call fails, it is told, unless memory lacks or a program's code is too long.
use Rattle.std.proofs.Common.{inl, inr}
use Rattle.tta_exit_laws.specs.Cited.{IsSubject, RefusesSubject, IsCostText, Lacks}
use Rattle.tta_exit_laws.specs.CostCompletes.{CostCompletes}
use Rattle.tta_exit_laws.proofs.TextsPut.{puts_only}
use Rattle.tta_exit_laws.proofs.ViewsTaken.{subject_only, one_subject, lacks_only}

pub cost_completes_holds : CostCompletes
cost_completes_holds u store faults latest M F after old new s has calm ends =
    let pair = has.pair in
    let held = pair.machine.held in
    let file = pair.machine.value in
    let subject = pair.second.value in
    elim (puts_only u store faults latest after old new calm (IsSubject u) (RefusesSubject u) (IsCostText u) (Lacks u) M F s pair
    (λ bytes is. subject_only u held.bytes file bytes subject s held.says is)
    (λ bytes v. one_subject u held.bytes file bytes v subject held.says) ends) [
      | inl done ↦ inl done
      | inr (inl lacks) ↦ inr (inl lacks)
      | inr (inr lacks) ↦ inr (lacks_only u file subject s has.runnable lacks)
    ]
