use Rattle.std.proofs.Common.{length}
use Rattle.tta_rtl.proofs.templates.+push_shares_from.Given as goal

-- the rest of the list is shorter
abbrev pub decreases-push_shares_from : goal.decreases-push_shares_from
decreases-push_shares_from l = length l.buses.now
