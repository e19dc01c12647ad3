use Rattle.tta_progress.proofs.Resting.{board_rests}
use Rattle.tta_progress.proofs.laws.board_rests.Goals as goal

pub returns : goal.returns
returns c = board_rests
