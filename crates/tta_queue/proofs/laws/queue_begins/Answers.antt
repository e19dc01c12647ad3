use Rattle.tta_queue.proofs.Clocking.{queue_begins}
use Rattle.tta_queue.proofs.laws.queue_begins.Goals as goal

pub returns : goal.returns
returns c = queue_begins
