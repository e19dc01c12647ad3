use Rattle.std.proofs.Common.{◌≡◌, ◌++◌, take}
use Rattle.std.specs.List.{flat_map}
use Rattle.tta_stages.specs.Cited.{stated}
use Rattle.std.specs.Prelude.{codes}
use Rattle.tta_stages.specs.StepText.{step_text}
use Rattle.tta_stages.proofs.text.steps.push_rsteps.Given as goal

abbrev pub invariant-loop-step : goal.invariant-loop-step
invariant-loop-step g l =
    let U = stated (λ v. (goal.OpUnit-dyn g v).unit_meaning v.1) l.units in
    l.out.items ≡ l.initial.out.items ++ flat_map (λ s. step_text U l.on.m.now l.on.homes.now s ++ codes "\n") (take l.step-index l.steps)
