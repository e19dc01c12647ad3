use Rattle.tta_progress.proofs.Finishing.{board_finishes}
use Rattle.tta_progress.proofs.laws.board_finishes.Goals as goal

pub returns : goal.returns
returns c = board_finishes
