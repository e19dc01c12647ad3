-- How a command ends: its words are none, or what it has made of two files is written to a file, or put to the output.
use Rattle.std.specs.Prelude.{◌≡◌, ◌⊎◌, ℕ, List, Some, Result, Ok, Err}
use Rattle.tta_load.specs.Cited.{Units, Write, Rose, written, IsPartlyWritten, World, IsUntouched, Output, NothingOutput, IsPut, IsCut}
use Rattle.tta_load.specs.declared.machine.MachineFile.{MachineFile}
use Rattle.tta_load.specs.declared.status.Status.{Status}
use Rattle.tta_load.specs.declared.status.Status.TheVariants as status
use Rattle.tta_load.specs.Pairs.{HasPair, PairFails}

-- words that are no command end as such, and nothing is done
pub record IsUsage (before after : World) (old new : Output) (s : Status) : Type 0 where
  pub status : s ≡ status.Usage
  pub untouched : IsUntouched before after
  pub quiet : NothingOutput old new

-- ---- writing

-- OUT holds a result, and every other file what it held
pub record IsWritten (Makes : List ℕ → Type 0) (OUT : List ℕ) (before after : World) : Type 0 where
  pub bytes : List ℕ
  pub makes : Makes bytes
  pub written : after.contents ≡ written OUT bytes before.contents
  pub faults : after.faults ≡ before.faults
  pub latest : after.latest ≡ before.latest

-- the write of OUT has failed: OUT holds a prefix of a result or is as it was, and so is every other file
pub record WriteFailed (Makes : List ℕ → Type 0) (OUT : List ℕ) (before after : World) : Type 0 where
  pub bytes : List ℕ
  pub makes : Makes bytes
  pub partly : IsPartlyWritten OUT bytes before.contents after.contents
  pub rose : Rose before.faults after.faults
  pub latest : after.latest ≡ Some (Write OUT)

-- a result was made, and written or not
abbrev pub WritingEnds : (Makes : List ℕ → Type 0) → (OUT : List ℕ) → (before after : World) → Status → Type 0
WritingEnds Makes OUT before after status.Ok = IsWritten Makes OUT before after
WritingEnds Makes OUT before after status.WriteFault = WriteFailed Makes OUT before after
WritingEnds Makes OUT before after status.NoMemory = IsUntouched before after
WritingEnds Makes OUT before after s = ⊥

-- How a command ends that makes a file OUT of a machine and what is for it: one of these is refused; or of both nothing is
-- made, for a cause, and no file is touched; or a result is made and written.
abbrev pub Writes : {V : Type 0} → Units → (Says : MachineFile → List ℕ → V → Type 0) → (Refuses : MachineFile → List ℕ → Status → Type 0)
    → (Makes : MachineFile → V → List ℕ → Type 0) → (Lacks : MachineFile → V → Status → Type 0)
    → (M name OUT : List ℕ) → (before after : World) → Status → Type 0
Writes u Says Refuses Makes Lacks M name OUT before after s =
    PairFails u Refuses M name before after s
    ⊎ ((pair : HasPair u Says before.contents M name)
    × ((IsUntouched before after × Lacks pair.machine.value pair.second.value s)
    ⊎ WritingEnds (Makes pair.machine.value pair.second.value) OUT before after s))

-- bytes were written, or they were not
abbrev pub WriteEnds : (OUT bytes : List ℕ) → (before after : World) → Status → Type 0
WriteEnds OUT bytes before after status.Ok =
    (after.contents ≡ written OUT bytes before.contents) × (after.faults ≡ before.faults) × (after.latest ≡ before.latest)
WriteEnds OUT bytes before after status.WriteFault =
    IsPartlyWritten OUT bytes before.contents after.contents × Rose before.faults after.faults × (after.latest ≡ Some (Write OUT))
WriteEnds OUT bytes before after status.NoMemory = IsUntouched before after
WriteEnds OUT bytes before after s = ⊥

-- what was made was written; where nothing was made, nothing is touched, and the command ends so
abbrev pub WritesMade : {T : Type 0} → (OUT : List ℕ) → (T → List ℕ) → Result T Status → (before after : World) → Status → Type 0
WritesMade OUT items (Ok v) before after s = WriteEnds OUT (items v) before after s
WritesMade OUT items (Err e) before after s = (s ≡ e) × IsUntouched before after

-- ---- putting

-- a text is put whole, or a prefix of it where the output fails
abbrev pub PutEnds : (text : List ℕ) → (old new : Output) → Status → Type 0
PutEnds text old new status.Ok = IsPut text old new
PutEnds text old new status.WriteFault = IsCut text old new
PutEnds text old new s = ⊥

-- what was made was put; where nothing was made, nothing is put, and the command ends so
abbrev pub PutsMade : {T : Type 0} → (T → List ℕ) → Result T Status → (old new : Output) → Status → Type 0
PutsMade items (Ok v) old new s = PutEnds (items v) old new s
PutsMade items (Err e) old new s = (s ≡ e) × NothingOutput old new

-- a text was made and put, or none was made, for a cause, and nothing is put
abbrev pub TextEnds : (Makes : List ℕ → Type 0) → (Lacks : Status → Type 0) → (old new : Output) → Status → Type 0
TextEnds Makes Lacks old new s = ((text : List ℕ) × Makes text × PutEnds text old new s) ⊎ (Lacks s × NothingOutput old new)

-- How a command ends that puts a text of a machine and what is for it: one of these is refused, and nothing is put; or of both no
-- text is made, for a cause; or the text is put. No file is touched but by a fault of a read.
abbrev pub Puts : {V : Type 0} → Units → (Says : MachineFile → List ℕ → V → Type 0) → (Refuses : MachineFile → List ℕ → Status → Type 0)
    → (Makes : MachineFile → V → List ℕ → Type 0) → (Lacks : MachineFile → V → Status → Type 0)
    → (M name : List ℕ) → (before after : World) → (old new : Output) → Status → Type 0
Puts u Says Refuses Makes Lacks M name before after old new s =
    (PairFails u Refuses M name before after s × NothingOutput old new)
    ⊎ ((pair : HasPair u Says before.contents M name) × IsUntouched before after
    × TextEnds (Makes pair.machine.value pair.second.value) (Lacks pair.machine.value pair.second.value) old new s)
