-- Files that hold assembly.
use Rattle.std.specs.Prelude.{◌≡◌, ℕ, List, Ok, Err}
use Rattle.tta_load.specs.Cited.{Units, Machine, Whole, AsmRefusal, assembled}
use Rattle.tta_asm.specs.Refusals.{code_of}
use Rattle.tta_load.specs.declared.machine.MachineFile.{MachineFile}
use Rattle.tta_load.specs.declared.status.Status.{Status}
use Rattle.tta_load.specs.declared.status.Status.TheVariants as status

-- a text is the assembly of code with data for a machine
abbrev pub IsAssemblyFor : Units → MachineFile → (text : List ℕ) → Whole → Type 0
IsAssemblyFor u file text whole = assembled u file.machine text ≡ Ok whole

-- a text is refused as assembly for a machine, with this number at this line
pub record IsBadAssembly (u : Units) (m : Machine) (text : List ℕ) (line code : ℕ) : Type 0 where
  pub refusal : AsmRefusal
  pub refused : assembled u m text ≡ Err (line, refusal)
  pub told : code ≡ code_of refusal

-- why a text gives no code for a machine
abbrev pub RefusesAssembly : Units → MachineFile → (text : List ℕ) → Status → Type 0
RefusesAssembly u file text (status.BadAsm line code) = IsBadAssembly u file.machine text line code
RefusesAssembly u file text status.NoMemory = Unit {0}
RefusesAssembly u file text s = ⊥
