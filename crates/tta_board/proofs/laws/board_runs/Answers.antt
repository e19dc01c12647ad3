use Rattle.tta_board.proofs.Running.{board_runs}
use Rattle.tta_board.proofs.laws.board_runs.Goals as goal

pub returns : goal.returns
returns c = board_runs
