use Rattle.tta_board.proofs.Wiring.{board_settles}
use Rattle.tta_board.proofs.laws.board_settles.Goals as goal

pub returns : goal.returns
returns c = board_settles
