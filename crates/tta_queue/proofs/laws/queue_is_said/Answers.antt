use Rattle.tta_queue.proofs.Saying.{queue_is_said}
use Rattle.tta_queue.proofs.laws.queue_is_said.Goals as goal

pub returns : goal.returns
returns c = queue_is_said
