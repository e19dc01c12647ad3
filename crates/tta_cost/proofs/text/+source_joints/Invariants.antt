use Rattle.std.proofs.Common.{length}
use Rattle.tta_cost.proofs.text.+source_joints.Given as goal

-- the rest of the list is shorter
abbrev pub decreases-source_joints : goal.decreases-source_joints
decreases-source_joints l = length l.buses.now
