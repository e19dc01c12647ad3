use Rattle.std.proofs.Common.{◌≡◌, ◌++◌, drop}
use Rattle.std.specs.List.{flat_map, enumerate_from}
use Rattle.tta_arch.specs.Layout.{unit_dests, dests_of_unit}
use Rattle.tta_arch.proofs.codes.push_units.Given as goal

abbrev pub invariant-loop-unit : goal.invariant-loop-unit
invariant-loop-unit l =
    l.list.items ++ flat_map (λ u. dests_of_unit u.0 u.1) (enumerate_from l.unit (drop l.unit l.units)) ≡ l.initial.list.items ++ unit_dests l.units
