use Rattle.tta_exit_laws.proofs.SamplesTaken.{sample_completes_without_room_holds}
use Rattle.tta_exit_laws.proofs.laws.sample_completes_without_room.Goals as goal

pub returns : goal.returns
returns c = sample_completes_without_room_holds
