use Rattle.std.proofs.Common.{refl}
use Rattle.tta_inspect.proofs.command.carry_out.Goals as goal

pub returns-in-Info : goal.returns-in-Info
returns-in-Info g c = rw c.in-Info.is (refl, c.put_info.ensures)
