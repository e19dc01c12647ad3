use Rattle.std.proofs.Common.{length}
use Rattle.tta_wiring.proofs.wiring.+push_rooms.Given as goal

-- the rest of the list is shorter
abbrev pub decreases-push_rooms : goal.decreases-push_rooms
decreases-push_rooms l = length l.feeds.now
