use Rattle.std.proofs.Common.{length}
use Rattle.tta_boxed_rtl.proofs.left.+add_units.Given as goal

-- the rest of the list is shorter
abbrev pub decreases-add_units : goal.decreases-add_units
decreases-add_units l = length l.units.now
