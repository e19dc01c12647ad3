use Rattle.tta_board.proofs.Beginning.{board_begins}
use Rattle.tta_board.proofs.laws.board_begins.Goals as goal

pub returns : goal.returns
returns c = board_begins
