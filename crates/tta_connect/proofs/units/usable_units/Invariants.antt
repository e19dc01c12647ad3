use Rattle.std.proofs.Common.{◌≡◌, ℕ}
use Rattle.std.specs.Prelude.{nat_lt, ◌&&◌}
use Rattle.tta_connect.specs.Cited.{has_bit}
use Rattle.tta_connect.specs.Coverage.{is_usable_at}
use Rattle.tta_connect.proofs.units.usable_units.Given as goal

abbrev pub invariant-loop-unit : goal.invariant-loop-unit
invariant-loop-unit l = (k : ℕ) → has_bit l.units k ≡ (nat_lt k l.unit && is_usable_at l.on.machine.now l.hub k)
