use Rattle.std.proofs.Common.{◌≡◌, ◌++◌}
use Rattle.std.specs.List.{flat_map}
use Rattle.tta_stages.specs.Cited.{numbers}
use Rattle.tta_stages.specs.ProgramText.{variable_text}
use Rattle.tta_stages.proofs.text.variables.push_each.Given as goal

abbrev pub invariant-loop-x : goal.invariant-loop-x
invariant-loop-x l =
    l.out.items ≡ l.initial.out.items ++ flat_map (variable_text l.on.m.now l.on.homes.now l.of.p.now l.of.lowered.now l.owner l.first) (numbers l.x)
