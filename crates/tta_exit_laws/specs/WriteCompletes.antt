-- What `ifconv`, `asm`, `dis` and `build` take without fail. Each of them writes a file.
use Rattle.std.specs.Prelude.{◌≡◌, ◌⊎◌, ℕ, Bool, List, Option, Some}
use Rattle.tta_ports.specs.declared.fault.Fault.{Fault}
use Rattle.tta_exit_laws.specs.Cited.{Store, Rose, World, Units, IsAccepted, LacksRoomWith, ProgramText, Status, Held, IsAssemblyFor, IsImageFor, IsProgramFor, HasPair, WritesConverted, Assembles, Shows, Builds}
use Rattle.tta_load.specs.declared.status.Status.TheVariants as status
use Rattle.tta_exit_laws.specs.Completes.{showing}

-- `ifconv` of a file that holds a program, where no call on the files fails, writes the text or is out of memory, and ends in
-- no other way
abbrev pub IfconvCompletes : Type 0
IfconvCompletes =
    (u : Units) (store : Store) (faults : ℕ) (latest : Option Fault) (P OUT : List ℕ) (after : World) (s : Status)
    → Held (ProgramText u) (Some store) P → (Rose faults after.faults → ⊥) → WritesConverted u P OUT (showing store faults latest) after s
    → (s ≡ status.Ok) ⊎ (s ≡ status.NoMemory)

-- `asm` of a machine and assembly for it, where no call on the files fails, writes the image or is out of memory, and ends in no
-- other way
abbrev pub AsmCompletes : Type 0
AsmCompletes =
    (u : Units) (store : Store) (faults : ℕ) (latest : Option Fault) (M A OUT : List ℕ) (after : World) (s : Status) → HasPair u (IsAssemblyFor u) (Some store) M A
    → (Rose faults after.faults → ⊥) → Assembles u M A OUT (showing store faults latest) after s → (s ≡ status.Ok) ⊎ (s ≡ status.NoMemory)

-- and so does `dis` of a machine and an image for it, which writes the text
abbrev pub DisCompletes : Type 0
DisCompletes =
    (u : Units) (store : Store) (faults : ℕ) (latest : Option Fault) (M IMG OUT : List ℕ) (after : World) (s : Status) → HasPair u IsImageFor (Some store) M IMG
    → (Rose faults after.faults → ⊥) → Shows u M IMG OUT (showing store faults latest) after s → (s ≡ status.Ok) ⊎ (s ≡ status.NoMemory)

-- files hold a machine and a program whose data lie in its data space, and the pair is accepted
pub record HasAcceptedPair (u : Units) (store : Store) (M P : List ℕ) : Type 0 where
  pub pair : HasPair u (IsProgramFor u) (Some store) M P
  pub accepted : IsAccepted u pair.machine.value.machine pair.second.value

-- an ending says that code has more words than the machine has addresses, and with these two numbers it is so
pub record IsFull (Lacks : (words have : ℕ) → Type 0) (s : Status) : Type 0 where
  pub words : ℕ
  pub have : ℕ
  pub told : s ≡ status.CodeFull words have
  pub lacks : Lacks words have

-- `build` of such a pair, whatever its room, where no call on the files fails, writes an image of it, is out of memory, or has code
-- that is too long; and it ends in no other way
abbrev pub BuildCompletesWithoutRoom : Type 0
BuildCompletesWithoutRoom =
    (converts : Bool) (u : Units) (store : Store) (faults : ℕ) (latest : Option Fault) (M P OUT : List ℕ) (after : World) (s : Status)
    (has : HasAcceptedPair u store M P) → (Rose faults after.faults → ⊥) → Builds converts u M P OUT (showing store faults latest) after s
    → (s ≡ status.Ok) ⊎ (s ≡ status.NoMemory) ⊎ IsFull (LacksRoomWith converts u has.pair.machine.value.machine has.pair.second.value) s
