use Rattle.std.proofs.Common.{◌≡◌, ◌++◌}
use Rattle.std.specs.List.{flat_map}
use Rattle.tta_origins.specs.Cited.{numbers}
use Rattle.tta_origins.specs.Origins.{live_text}
use Rattle.tta_origins.proofs.variables.push_lives.Given as goal

abbrev pub invariant-loop-x : goal.invariant-loop-x
invariant-loop-x l =
    l.out.items ≡ l.initial.out.items ++ flat_map (live_text l.of.m.now l.of.homes.now l.of.p.now l.of.lowered.now l.part) (numbers l.x)
