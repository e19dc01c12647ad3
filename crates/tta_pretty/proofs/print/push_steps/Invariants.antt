use Rattle.std.proofs.Common.{◌≡◌, ◌++◌, take}
use Rattle.std.specs.List.{flat_map}
use Rattle.tta_pretty.specs.Cited.{stated}
use Rattle.tta_pretty.specs.Printed.{line_text, step_lines}
use Rattle.tta_pretty.proofs.print.push_steps.Given as goal

abbrev pub invariant-loop-at : goal.invariant-loop-at
invariant-loop-at g l =
    let U = stated (λ v. (goal.OpUnit-dyn g v).unit_meaning v.1) l.units in
    l.out.items ≡ l.fn.out.items ++ flat_map line_text (step_lines U l.main l.steps 0 (take l.at l.steps))
