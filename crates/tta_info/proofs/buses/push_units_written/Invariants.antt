use Rattle.std.proofs.Common.{◌≡◌, ◌++◌, take}
use Rattle.std.specs.List.{flat_map}
use Rattle.tta_info.specs.Buses.{ports_text}
use Rattle.tta_info.proofs.buses.push_units_written.Given as goal

abbrev pub invariant-loop-q : goal.invariant-loop-q
invariant-loop-q l = l.out.items ≡ l.initial.out.items ++ flat_map (ports_text l.m l.bus) (take l.q-index l.units)
