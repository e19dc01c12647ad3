-- Files that hold an image.
use Rattle.std.specs.Prelude.{◌≡◌, ℕ, List, Err}
use Rattle.tta_load.specs.Cited.{Whole, Refused, Image, decoded_image}
use Rattle.tta_load.specs.declared.machine.MachineFile.{MachineFile}
use Rattle.tta_load.specs.declared.status.Status.{Status}
use Rattle.tta_load.specs.declared.status.Status.TheVariants as status

-- bytes are the image of code with data for a machine, with the digest of the machine's text
abbrev pub IsImageFor : MachineFile → (bytes : List ℕ) → Whole → Type 0
IsImageFor file bytes whole = Image file.machine file.digest whole bytes

-- why bytes give no code for a machine: the first reason that they have
abbrev pub RefusesImage : MachineFile → (bytes : List ℕ) → Status → Type 0
RefusesImage file bytes (status.BadImage code word bus) =
    decoded_image file.machine file.digest bytes ≡ Err (Refused code word bus)
RefusesImage file bytes status.NoMemory = Unit {0}
RefusesImage file bytes s = ⊥
