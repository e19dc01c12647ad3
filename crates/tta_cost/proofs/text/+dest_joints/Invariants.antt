use Rattle.std.proofs.Common.{length}
use Rattle.tta_cost.proofs.text.+dest_joints.Given as goal

-- the rest of the list is shorter
abbrev pub decreases-dest_joints : goal.decreases-dest_joints
decreases-dest_joints l = length l.buses.now
