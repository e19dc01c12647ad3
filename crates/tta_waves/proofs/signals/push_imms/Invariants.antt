use Rattle.std.proofs.Common.{◌≡◌, ◌++◌, drop}
use Rattle.std.specs.List.{flat_map, enumerate_from}
use Rattle.tta_waves.specs.Signals.{imm_signals}
use Rattle.tta_waves.proofs.signals.push_imms.Given as goal

abbrev pub invariant-loop-unit : goal.invariant-loop-unit
invariant-loop-unit l =
    l.list.items ++ flat_map imm_signals (enumerate_from l.unit (drop l.unit l.imms)) ≡ l.initial.list.items ++ flat_map imm_signals (enumerate_from 0 l.imms)
