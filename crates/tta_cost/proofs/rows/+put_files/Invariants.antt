use Rattle.std.proofs.Common.{length}
use Rattle.tta_cost.proofs.rows.+put_files.Given as goal

-- the rest of the list is shorter
abbrev pub decreases-put_files : goal.decreases-put_files
decreases-put_files l = length l.files.now
