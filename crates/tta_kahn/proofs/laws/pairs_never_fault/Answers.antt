use Rattle.tta_kahn.proofs.Pairs.{pairs_never_fault}
use Rattle.tta_kahn.proofs.laws.pairs_never_fault.Goals as goal

pub returns : goal.returns
returns c = pairs_never_fault
