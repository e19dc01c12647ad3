use Rattle.std.proofs.Common.{◌≡◌, ◌++◌, drop}
use Rattle.std.specs.List.{flat_map, enumerate_from}
use Rattle.tta_waves.specs.Signals.{unit_signals}
use Rattle.tta_waves.proofs.signals.push_units.Given as goal

abbrev pub invariant-loop-unit : goal.invariant-loop-unit
invariant-loop-unit l =
    l.list.items ++ flat_map unit_signals (enumerate_from l.unit (drop l.unit l.units)) ≡ l.initial.list.items ++ flat_map unit_signals (enumerate_from 0 l.units)
