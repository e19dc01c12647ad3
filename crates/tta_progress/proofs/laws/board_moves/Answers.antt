use Rattle.tta_progress.proofs.Moving.{board_moves}
use Rattle.tta_progress.proofs.laws.board_moves.Goals as goal

pub returns : goal.returns
returns c = board_moves
