use Rattle.std.proofs.Common.{length}
use Rattle.tta_rtl.proofs.templates.+long_width.Given as goal

-- the rest of the list is shorter
abbrev pub decreases-long_width : goal.decreases-long_width
decreases-long_width l = length l.buses.now
