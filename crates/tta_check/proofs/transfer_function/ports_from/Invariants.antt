-- The units so far.
use Rattle.std.proofs.Common.{◌≡◌, ◌++◌, drop}
use Rattle.tta_check.specs.Transfers.{ports_after}
use Rattle.tta_check.proofs.transfer_function.ports_from.Given as goal

abbrev pub invariant-loop-unit : goal.invariant-loop-unit
invariant-loop-unit l = ports_after l.m l.i l.how 0 l.ports ≡ l.list.items ++ ports_after l.m l.i l.how l.unit (drop l.unit l.ports)
