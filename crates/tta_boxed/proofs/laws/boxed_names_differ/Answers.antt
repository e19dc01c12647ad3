use Rattle.tta_boxed.proofs.Differ.{boxed_names_differ}
use Rattle.tta_boxed.proofs.laws.boxed_names_differ.Goals as goal

pub returns : goal.returns
returns c = boxed_names_differ
