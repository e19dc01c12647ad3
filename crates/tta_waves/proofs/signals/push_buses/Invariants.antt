use Rattle.std.proofs.Common.{◌≡◌, ◌++◌, drop}
use Rattle.std.specs.List.{flat_map, enumerate_from}
use Rattle.tta_waves.specs.Signals.{bus_signals}
use Rattle.tta_waves.proofs.signals.push_buses.Given as goal

abbrev pub invariant-loop-bus : goal.invariant-loop-bus
invariant-loop-bus l =
    l.list.items ++ flat_map bus_signals (enumerate_from l.bus (drop l.bus l.buses)) ≡ l.initial.list.items ++ flat_map bus_signals (enumerate_from 0 l.buses)
