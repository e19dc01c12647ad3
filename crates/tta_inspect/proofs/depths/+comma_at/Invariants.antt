use Rattle.std.proofs.Common.{length}
use Rattle.tta_inspect.proofs.depths.+comma_at.Given as goal

-- the rest of the bytes is shorter
abbrev pub decreases-comma_at : goal.decreases-comma_at
decreases-comma_at l = length l.bytes.now
