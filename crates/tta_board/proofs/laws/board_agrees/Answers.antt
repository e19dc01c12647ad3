use Rattle.tta_board.proofs.Agreeing.{board_agrees}
use Rattle.tta_board.proofs.laws.board_agrees.Goals as goal

pub returns : goal.returns
returns c = board_agrees
