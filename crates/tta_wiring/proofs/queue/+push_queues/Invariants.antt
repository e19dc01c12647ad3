use Rattle.std.proofs.Common.{length}
use Rattle.tta_wiring.proofs.queue.+push_queues.Given as goal

-- the rest of the list is shorter
abbrev pub decreases-push_queues : goal.decreases-push_queues
decreases-push_queues l = length l.depths.now
