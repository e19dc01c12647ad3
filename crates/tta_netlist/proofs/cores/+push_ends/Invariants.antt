use Rattle.std.proofs.Common.{length}
use Rattle.tta_netlist.proofs.cores.+push_ends.Given as goal

-- the rest of the list is shorter
abbrev pub decreases-push_ends : goal.decreases-push_ends
decreases-push_ends l = length l.cores.now
