use Rattle.tta_compiler_laws.proofs.OnceCounts.{one_counts}
use Rattle.tta_compiler_laws.proofs.laws.one_counts.Goals as goal

pub returns : goal.returns
returns c = one_counts
