use Rattle.std.proofs.Common.{length}
use Rattle.tta_netlist.proofs.cores.+push_modules.Given as goal

-- the rest of the list is shorter
abbrev pub decreases-push_modules : goal.decreases-push_modules
decreases-push_modules g l = length l.cores.items
