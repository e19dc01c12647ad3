use Rattle.tta_inspect.specs.Cited.{no_memory, IsImageFor, RefusesImage}
use Rattle.tta_load.proofs.Statuses.{image_refusal, memory_lack}
use Rattle.tta_load.proofs.ByStatus.{put_by_status}
use Rattle.tta_inspect.specs.Command.{IsTold}
use Rattle.tta_inspect.proofs.laws.info_by_status.Goals as goal

pub returns : goal.returns
returns c = λ u M IMG before after old new.
    put_by_status u IsImageFor RefusesImage IsTold (λ file whole. no_memory) M IMG before after old new image_refusal (λ file whole. memory_lack)
