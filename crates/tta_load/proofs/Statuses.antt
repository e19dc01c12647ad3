-- The statuses with which a file is refused, and those for which nothing is made.
use Rattle.std.proofs.Common.{ℕ, List, Option, sym, subst}
use Rattle.tta_load.specs.Cited.{Store, Units}
use Rattle.tta_load.specs.declared.machine.MachineFile.{MachineFile}
use Rattle.tta_load.specs.declared.status.Status.{Status}
use Rattle.tta_load.specs.declared.status.Status.TheVariants as status
use Rattle.tta_load.specs.Held.{HasText, no_memory}
use Rattle.tta_load.specs.Programs.{RefusesProgramFor}
use Rattle.tta_load.specs.Images.{RefusesImage}
use Rattle.tta_load.specs.Assemblies.{RefusesAssembly}

-- with this status what is for a machine may be refused
abbrev pub IsRefusal : Status → Type 0
IsRefusal (status.BadImage code word bus) = Unit {0}
IsRefusal (status.BadProgram line code) = Unit {0}
IsRefusal (status.DataRange line have) = Unit {0}
IsRefusal (status.BadAsm line code) = Unit {0}
IsRefusal status.NoMemory = Unit {0}
IsRefusal s = ⊥

pub image_refusal : (file : MachineFile) (bytes : List ℕ) (s : Status) → RefusesImage file bytes s → IsRefusal s
image_refusal file bytes (status.BadImage code word bus) is = tt
image_refusal file bytes status.NoMemory is = tt
image_refusal file bytes s is = absurd is

pub program_refusal : (u : Units) (file : MachineFile) (bytes : List ℕ) (s : Status) → RefusesProgramFor u file bytes s → IsRefusal s
program_refusal u file bytes (status.BadProgram line code) is = tt
program_refusal u file bytes (status.DataRange line have) is = tt
program_refusal u file bytes status.NoMemory is = tt
program_refusal u file bytes s is = absurd is

pub assembly_refusal : (u : Units) (file : MachineFile) (bytes : List ℕ) (s : Status) → RefusesAssembly u file bytes s → IsRefusal s
assembly_refusal u file bytes (status.BadAsm line code) is = tt
assembly_refusal u file bytes status.NoMemory is = tt
assembly_refusal u file bytes s is = absurd is

-- with this status nothing may be made of what was read
abbrev pub IsLack : Status → Type 0
IsLack status.Ok = ⊥
IsLack status.WriteFault = ⊥
IsLack (status.BadMachine line code) = ⊥
IsLack (status.BadImage code word bus) = ⊥
IsLack (status.BadProgram line code) = ⊥
IsLack (status.DataRange line have) = ⊥
IsLack (status.BadAsm line code) = ⊥
IsLack (status.BadInput line) = ⊥
IsLack (status.BadStream line) = ⊥
IsLack (status.ReadFault word) = ⊥
IsLack (status.TooLong word) = ⊥
IsLack s = Unit {0}

pub memory_lack : (s : Status) → no_memory s → IsLack s
memory_lack s is = subst IsLack (sym is) tt

-- a status with which what is for a machine is not refused
pub kept : {U G : Type 0} {Refuses : MachineFile → List ℕ → Status → Type 0} {files : Option Store} {name : List ℕ}
    → ((file : MachineFile) (bytes : List ℕ) (s : Status) → Refuses file bytes s → IsRefusal s) → (s : Status) → (IsRefusal s → ⊥)
    → (file : MachineFile) → U × HasText files name (λ bytes. Refuses file bytes s) → G
kept refuses s not file e = absurd (not (refuses file e.1.text s e.1.is))

-- a status for which what was read lacks nothing
pub made : {U V G : Type 0} {Lacks : MachineFile → V → Status → Type 0}
    → ((file : MachineFile) (value : V) (s : Status) → Lacks file value s → IsLack s) → (s : Status) → (IsLack s → ⊥)
    → (file : MachineFile) (value : V) → U × Lacks file value s → G
made lacks s not file value e = absurd (not (lacks file value s e.1))
