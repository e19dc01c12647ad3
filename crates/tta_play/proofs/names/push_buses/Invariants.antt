use Rattle.std.proofs.Common.{◌≡◌, ◌++◌, take}
use Rattle.std.specs.Prelude.{codes}
use Rattle.std.specs.List.{flat_map}
use Rattle.tta_play.specs.Statement.{name_text}
use Rattle.tta_play.proofs.names.push_buses.Given as goal

abbrev pub invariant-loop-b : goal.invariant-loop-b
invariant-loop-b l = l.out.items ≡ l.initial.out.items ++ flat_map (λ b. name_text (codes "bus ") b.name) (take l.b-index l.buses)
