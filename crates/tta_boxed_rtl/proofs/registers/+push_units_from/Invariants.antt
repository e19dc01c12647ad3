use Rattle.std.proofs.Common.{length}
use Rattle.tta_boxed_rtl.proofs.registers.+push_units_from.Given as goal

-- the rest of the list is shorter
abbrev pub decreases-push_units_from : goal.decreases-push_units_from
decreases-push_units_from l = length l.units.now
