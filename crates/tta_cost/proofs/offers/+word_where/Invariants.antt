use Rattle.std.proofs.Common.{length}
use Rattle.tta_cost.proofs.offers.+word_where.Given as goal

-- the rest of the list is shorter
abbrev pub decreases-word_where : goal.decreases-word_where
decreases-word_where l = length l.ops.now
