use Rattle.tta_compiler_laws.proofs.Composed.{selected_stand}
use Rattle.tta_compiler_laws.proofs.laws.selected_stand.Goals as goal

pub returns : goal.returns
returns c = selected_stand
