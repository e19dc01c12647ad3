use Rattle.tta_told.proofs.OneFiles.{one_file}
use Rattle.tta_told.proofs.laws.one_file.Goals as goal

pub returns : goal.returns
returns c = one_file
