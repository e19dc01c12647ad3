use Rattle.tta_exit_laws.specs.Cited.{no_memory, IsImageFor, RefusesImage}
use Rattle.tta_load.proofs.Statuses.{image_refusal, memory_lack}
use Rattle.tta_load.proofs.ByStatus.{write_by_status}
use Rattle.tta_tool.specs.Dis.{IsShown}
use Rattle.tta_exit_laws.proofs.laws.dis_by_status.Goals as goal

pub returns : goal.returns
returns c = λ u M IMG OUT before after.
    write_by_status u IsImageFor RefusesImage (IsShown u) (λ file whole. no_memory) M IMG OUT before after
    image_refusal (λ file whole. memory_lack)
