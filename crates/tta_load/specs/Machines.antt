-- Files that hold a machine.
use Rattle.std.specs.Prelude.{◌≡◌, ℕ, List, Option, Ok, Err}
use Rattle.sha2.specs.Sha256.{sha256}
use Rattle.tta_load.specs.Cited.{Store, World, Units, machine_of_text}
use Rattle.tta_machine.specs.declared.refusal.Refusal.{Refusal}
use Rattle.tta_machine.specs.Draft.{code_of}
use Rattle.tta_load.specs.declared.machine.MachineFile.{MachineFile}
use Rattle.tta_load.specs.declared.status.Status.{Status}
use Rattle.tta_load.specs.declared.status.Status.TheVariants as status
use Rattle.tta_load.specs.Held.{Held, FileFails}

-- a text describes a machine, and this is the digest of the text
pub record IsDescribed (u : Units) (text : List ℕ) (file : MachineFile) : Type 0 where
  pub read : machine_of_text u text ≡ Ok file.machine
  pub digest : file.digest ≡ sha256 text

-- a text is refused as a machine with this number at this line
pub record IsBadMachine (u : Units) (text : List ℕ) (line code : ℕ) : Type 0 where
  pub refusal : Refusal
  pub refused : machine_of_text u text ≡ Err (line, refusal)
  pub told : code ≡ code_of refusal

-- why a text gives no machine
abbrev pub RefusesMachine : Units → (text : List ℕ) → Status → Type 0
RefusesMachine u text (status.BadMachine line code) = IsBadMachine u text line code
RefusesMachine u text status.NoMemory = Unit {0}
RefusesMachine u text s = ⊥

-- the file of a name holds the text of a machine
abbrev pub HasMachine : Units → (files : Option Store) → (M : List ℕ) → Type 0
HasMachine u files M = Held (IsDescribed u) files M

-- why the machine that a word names is not taken
abbrev pub MachineFails : Units → (M : List ℕ) (word : ℕ) → (before after : World) → Status → Type 0
MachineFails u M word before after s = FileFails (RefusesMachine u) M word before after s
