use Rattle.std.proofs.Common.{length}
use Rattle.tta_rtl.proofs.templates.+width_of.Given as goal

-- the rest of the list is shorter
abbrev pub decreases-width_of : goal.decreases-width_of
decreases-width_of l = length l.buses.now
