use Rattle.tta_exit_laws.specs.Cited.{Whole, MachineFile, Status, IsImageFor, RefusesImage, IsCalledSafe, IsFound}
use Rattle.tta_load.specs.declared.status.Status.TheVariants as status
use Rattle.tta_load.proofs.Statuses.{IsLack, image_refusal}
use Rattle.tta_load.proofs.ByStatus.{put_by_status}
use Rattle.tta_exit_laws.proofs.laws.check_by_status.Goals as goal

-- what is found of code is no status of a file
found_lack : (file : MachineFile) (whole : Whole) (s : Status) → IsFound file whole s → IsLack s
found_lack file whole (status.Unsafe number word) is = tt
found_lack file whole status.NoMemory is = tt
found_lack file whole s is = absurd is

pub returns : goal.returns
returns c = λ u M IMG before after old new.
    put_by_status u IsImageFor RefusesImage IsCalledSafe IsFound M IMG before after old new image_refusal found_lack
