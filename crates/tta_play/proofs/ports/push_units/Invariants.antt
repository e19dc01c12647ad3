use Rattle.std.proofs.Common.{◌≡◌, ◌++◌, take}
use Rattle.std.specs.List.{flat_map}
use Rattle.tta_play.specs.Ports.{unit_ports}
use Rattle.tta_play.proofs.ports.push_units.Given as goal

abbrev pub invariant-loop-q : goal.invariant-loop-q
invariant-loop-q l = l.out.items ≡ l.initial.out.items ++ flat_map (unit_ports l.m) (take l.q-index l.units)
