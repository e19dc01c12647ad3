use Rattle.std.proofs.Common.{◌≡◌, ◌++◌, ◌+◌}
use Rattle.std.specs.List.{flat_map}
use Rattle.tta_stages.specs.Cited.{stated, numbers}
use Rattle.tta_stages.specs.ProgramText.{step_at_text}
use Rattle.tta_stages.proofs.text.program.push_steps_in.Given as goal

abbrev pub invariant-loop-i : goal.invariant-loop-i
invariant-loop-i g l =
    let U = stated (λ v. (goal.OpUnit-dyn g v).unit_meaning v.1) l.units in
    l.out.items ≡ l.initial.out.items ++ flat_map (λ i. step_at_text U l.main l.q (l.b.first + i)) (numbers l.i)
