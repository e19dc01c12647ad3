-- What `check`, `exec`, `run`, `debug` and `sample` take without fail. Each of them puts a text to the output.
use Rattle.std.specs.Prelude.{◌≡◌, ◌⊎◌, ℕ, false, List, Option, Some}
use Rattle.tta_ports.specs.declared.fault.Fault.{Fault}
use Rattle.tta_exit_laws.specs.Cited.{Store, Rose, World, Output, Units, Machine, sample_text, IsUnsafe, IsRoomy, IsAccepted, LacksRoom, is_fault, Status, HasMachine, IsImageFor, IsProgramIn, HasPair, ChecksCode, Execs, Runs, Debugs, step_bound, program_after, Samples}
use Rattle.tta_program.specs.Program.{Program}
use Rattle.tta_program.specs.Sequential as sequential
use Rattle.tta_code.specs.declared.code.Code.{Code}
use Rattle.tta_code.specs.Cycle as cycle
use Rattle.tta_load.specs.declared.status.Status.TheVariants as status
use Rattle.tta_exit_laws.specs.Exec.{HasExecuted}
use Rattle.tta_exit_laws.specs.Run.{HasCycled}
use Rattle.tta_exit_laws.specs.Debug.{HasSession}
use Rattle.tta_exit_laws.specs.Completes.{showing}
use Rattle.tta_exit_laws.specs.WriteCompletes.{IsFull}

-- no call on the files has failed, and no put to the output
pub record IsUndisturbed (before after : World) (old new : Output) : Type 0 where
  pub files : Rose before.faults after.faults → ⊥
  pub output : Rose old.faults new.faults → ⊥

-- `exec` of a machine, a program, data words and an input whose run has halted at the bound, where no call fails, is done or out of
-- memory, and ends in no other way
abbrev pub ExecCompletes : Type 0
ExecCompletes =
    (u : Units) (store : Store) (faults : ℕ) (latest : Option Fault) (M P IN : List ℕ) (STREAM : Option (List ℕ)) (bound : ℕ) (after : World) (old new : Output) (s : Status)
    → HasExecuted u (Some store) M P IN STREAM bound (λ state. state.outcome ≡ sequential.Halted) → IsUndisturbed (showing store faults latest) after old new
    → Execs u M P IN STREAM bound (showing store faults latest) after old new s → (s ≡ status.Ok) ⊎ (s ≡ status.NoMemory)

-- and so is `run` of a machine, an image, data words and an input whose run has halted at the bound
abbrev pub RunCompletes : Type 0
RunCompletes =
    (u : Units) (store : Store) (faults : ℕ) (latest : Option Fault) (M IMG IN : List ℕ) (STREAM : Option (List ℕ)) (bound : ℕ) (after : World) (old new : Output) (s : Status)
    → HasCycled u (Some store) M IMG IN STREAM bound (λ state. state.outcome ≡ cycle.Halted) → IsUndisturbed (showing store faults latest) after old new
    → Runs u M IMG IN STREAM bound (showing store faults latest) after old new s → (s ≡ status.Ok) ⊎ (s ≡ status.NoMemory)

-- and `debug` of a machine, an image, data words, a script and an input, where the script leaves the run at no fault
abbrev pub DebugCompletes : Type 0
DebugCompletes =
    (u : Units) (store : Store) (faults : ℕ) (latest : Option Fault) (M IMG IN SCRIPT : List ℕ) (STREAM : Option (List ℕ)) (after : World) (old new : Output) (s : Status)
    → HasSession u (Some store) M IMG IN SCRIPT STREAM (λ said. is_fault said.1.state.outcome ≡ false) → IsUndisturbed (showing store faults latest) after old new
    → Debugs u M IMG IN SCRIPT STREAM (showing store faults latest) after old new s → (s ≡ status.Ok) ⊎ (s ≡ status.NoMemory)

-- an ending names a word at which code is unsafe, with the number of what is wrong there, and it is so
pub record IsFoundUnsafe (m : Machine) (code : Code) (s : Status) : Type 0 where
  pub number : ℕ
  pub word : ℕ
  pub told : s ≡ status.Unsafe number word
  pub found : IsUnsafe m code number word

-- `check` of a machine and an image for it, where no call fails, says that the code is safe, is out of memory, or says where the
-- code is not safe; and it ends in no other way
abbrev pub CheckCompletes : Type 0
CheckCompletes =
    (u : Units) (store : Store) (faults : ℕ) (latest : Option Fault) (M IMG : List ℕ) (after : World) (old new : Output) (s : Status)
    (pair : HasPair u IsImageFor (Some store) M IMG) → IsUndisturbed (showing store faults latest) after old new
    → ChecksCode u M IMG (showing store faults latest) after old new s
    → (s ≡ status.Ok) ⊎ (s ≡ status.NoMemory) ⊎ IsFoundUnsafe pair.machine.value.machine pair.second.value.code s

-- A file holds a machine, and the text of a sample is that of a program for it, which has halted at the bound.
pub record HasHaltingSample (u : Units) (seed lines : ℕ) (store : Store) (M : List ℕ) : Type 0 where
  pub machine : HasMachine u (Some store) M
  pub program : Program
  pub is : IsProgramIn u machine.value.machine.data_words (sample_text seed lines) program
  pub halted : (program_after u program machine.value.machine.data_words (step_bound lines)).outcome ≡ sequential.Halted

-- the same, and the pair is accepted and has room
pub record HasSample (u : Units) (seed lines : ℕ) (store : Store) (M : List ℕ) : Type 0 where
  pub sample : HasHaltingSample u seed lines store M
  pub roomy : IsRoomy u sample.machine.value.machine sample.program

-- the same, and the pair is accepted, whatever its room
pub record HasAcceptedSample (u : Units) (seed lines : ℕ) (store : Store) (M : List ℕ) : Type 0 where
  pub sample : HasHaltingSample u seed lines store M
  pub accepted : IsAccepted u sample.machine.value.machine sample.program

-- `sample` of a pair with room, where no call fails, puts its summary or is out of memory, and ends in no other way
abbrev pub SampleCompletes : Type 0
SampleCompletes =
    (u : Units) (store : Store) (faults : ℕ) (latest : Option Fault) (seed lines : ℕ) (M : List ℕ) (after : World) (old new : Output) (s : Status)
    → HasSample u seed lines store M → IsUndisturbed (showing store faults latest) after old new
    → Samples u seed lines M (showing store faults latest) after old new s → (s ≡ status.Ok) ⊎ (s ≡ status.NoMemory)

-- `sample` of an accepted pair, whatever its room, where no call fails, puts its summary, is out of memory, or has code that is too
-- long; and it ends in no other way
abbrev pub SampleCompletesWithoutRoom : Type 0
SampleCompletesWithoutRoom =
    (u : Units) (store : Store) (faults : ℕ) (latest : Option Fault) (seed lines : ℕ) (M : List ℕ) (after : World) (old new : Output) (s : Status)
    → (has : HasAcceptedSample u seed lines store M) → IsUndisturbed (showing store faults latest) after old new
    → Samples u seed lines M (showing store faults latest) after old new s
    → (s ≡ status.Ok) ⊎ (s ≡ status.NoMemory) ⊎ IsFull (LacksRoom u has.sample.machine.value.machine has.sample.program) s
