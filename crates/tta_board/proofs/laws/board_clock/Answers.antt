use Rattle.tta_board.proofs.Clocking.{board_clock}
use Rattle.tta_board.proofs.laws.board_clock.Goals as goal

pub returns : goal.returns
returns c = board_clock
