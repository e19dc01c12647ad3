use Rattle.tta_exit_laws.proofs.ViewsTaken.{stages_completes_without_room_holds}
use Rattle.tta_exit_laws.proofs.laws.stages_completes_without_room.Goals as goal

pub returns : goal.returns
returns c = stages_completes_without_room_holds
