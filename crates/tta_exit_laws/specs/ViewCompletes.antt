-- What the commands for designers take without fail: those that show a machine, code, a run, the stages of a program, and `prompt`.
use Rattle.std.specs.Prelude.{◌≡◌, ◌⊎◌, ℕ, List, Option, Some, None}
use Rattle.tta_ports.specs.declared.fault.Fault.{Fault}
use Rattle.tta_exit_laws.specs.Cited.{Store, Rose, World, Output, Come, Units, Machine, IsAccepted, LacksRoom, Status, HasMachine, IsImageFor, HasPair, HasGiven, View, RunView, Subject, IsSubject, OfInfo, Ends, ShowsPicture, ShowsRun, StagesView, ShowsStages, OpensPrompt}
use Rattle.tta_load.specs.declared.status.Status.TheVariants as status
use Rattle.tta_inspect.specs.declared.subject.Subject.TheVariants.{Code, Program}
use Rattle.tta_inspect.specs.Request.{OfMachine}
use Rattle.tta_exit_laws.specs.Completes.{showing, HasRoomyPair}
use Rattle.tta_exit_laws.specs.WriteCompletes.{HasAcceptedPair, IsFull}
use Rattle.tta_exit_laws.specs.PutCompletes.{IsUndisturbed}

-- ---- a machine, and code

-- `picture` and `info` of a machine, where no call fails, put their text or are out of memory, and end in no other way
abbrev pub MachineViewCompletes : Type 0
MachineViewCompletes =
    (u : Units) (store : Store) (faults : ℕ) (latest : Option Fault) (view : View) (M : List ℕ) (after : World) (old new : Output) (s : Status)
    → HasMachine u (Some store) M → IsUndisturbed (showing store faults latest) after old new
    → Ends u (Some (OfMachine view M)) (showing store faults latest) after old new s → (s ≡ status.Ok) ⊎ (s ≡ status.NoMemory)

-- and so does `info` of a machine and an image for it
abbrev pub InfoCompletes : Type 0
InfoCompletes =
    (u : Units) (store : Store) (faults : ℕ) (latest : Option Fault) (M IMG : List ℕ) (after : World) (old new : Output) (s : Status)
    → HasPair u IsImageFor (Some store) M IMG → IsUndisturbed (showing store faults latest) after old new
    → Ends u (Some (OfInfo M IMG)) (showing store faults latest) after old new s → (s ≡ status.Ok) ⊎ (s ≡ status.NoMemory)

-- ---- a run

-- what is run is code, or a program that is accepted with the machine
abbrev pub IsRunnable : Units → Machine → Subject → Type 0
IsRunnable u m (Code whole) = Unit {0}
IsRunnable u m (Program p) = IsAccepted u m p

-- files hold all that is run: a machine, code or a program for it, data words and, where it is named, an input
pub record HasRunnable (u : Units) (store : Store) (M F IN : List ℕ) (STREAM : Option (List ℕ)) : Type 0 where
  pub pair : HasPair u (IsSubject u) (Some store) M F
  pub runnable : IsRunnable u pair.machine.value.machine pair.second.value
  pub given : HasGiven pair.machine.value.machine.data_words (Some store) IN STREAM

-- an ending says that a program's code is too long, and it is so
abbrev pub IsTooLong : Units → Machine → Subject → Status → Type 0
IsTooLong u m (Code whole) s = ⊥
IsTooLong u m (Program p) s = IsFull (LacksRoom u m p) s

-- `picture` of a machine and an image for it, or a program that is accepted with it, where no call fails, puts its text, is out of memory, or
-- finds the program's code too long; and it ends in no other way
abbrev pub PictureCompletes : Type 0
PictureCompletes =
    (u : Units) (store : Store) (faults : ℕ) (latest : Option Fault) (M F : List ℕ) (after : World) (old new : Output) (s : Status)
    (pair : HasPair u (IsSubject u) (Some store) M F) → IsRunnable u pair.machine.value.machine pair.second.value
    → IsUndisturbed (showing store faults latest) after old new → ShowsPicture u M F (showing store faults latest) after old new s
    → (s ≡ status.Ok) ⊎ (s ≡ status.NoMemory) ⊎ IsTooLong u pair.machine.value.machine pair.second.value s

-- `profile` and `play` of these, where no call fails, put their text, are out of memory, or find the program's code too long; and
-- they end in no other way
abbrev pub RunViewCompletes : Type 0
RunViewCompletes =
    (u : Units) (store : Store) (faults : ℕ) (latest : Option Fault) (view : RunView) (M F IN : List ℕ) (STREAM : Option (List ℕ)) (bound : ℕ)
    (after : World) (old new : Output) (s : Status) (has : HasRunnable u store M F IN STREAM)
    → IsUndisturbed (showing store faults latest) after old new
    → ShowsRun u view M F IN STREAM bound (showing store faults latest) after old new s
    → (s ≡ status.Ok) ⊎ (s ≡ status.NoMemory) ⊎ IsTooLong u has.pair.machine.value.machine has.pair.second.value s

-- ---- stages

-- `stages` of a pair that is accepted and has room, where no call fails, puts its text or is out of memory, and ends in no other way
abbrev pub StagesCompletes : Type 0
StagesCompletes =
    (u : Units) (store : Store) (faults : ℕ) (latest : Option Fault) (view : StagesView) (M P : List ℕ) (after : World) (old new : Output) (s : Status)
    → HasRoomyPair u store M P → IsUndisturbed (showing store faults latest) after old new
    → ShowsStages u view M P (showing store faults latest) after old new s → (s ≡ status.Ok) ⊎ (s ≡ status.NoMemory)

-- and of one that is accepted, whatever its room, it may also find the code too long
abbrev pub StagesCompletesWithoutRoom : Type 0
StagesCompletesWithoutRoom =
    (u : Units) (store : Store) (faults : ℕ) (latest : Option Fault) (view : StagesView) (M P : List ℕ) (after : World) (old new : Output) (s : Status)
    (has : HasAcceptedPair u store M P) → IsUndisturbed (showing store faults latest) after old new
    → ShowsStages u view M P (showing store faults latest) after old new s
    → (s ≡ status.Ok) ⊎ (s ≡ status.NoMemory) ⊎ IsFull (LacksRoom u has.pair.machine.value.machine has.pair.second.value) s

-- ---- a session

-- files hold all that a session runs: a machine, an image for it, data words and, where it is named, an input
pub record HasPromptFiles (u : Units) (store : Store) (M IMG IN : List ℕ) (STREAM : Option (List ℕ)) : Type 0 where
  pub pair : HasPair u IsImageFor (Some store) M IMG
  pub given : HasGiven pair.machine.value.machine.data_words (Some store) IN STREAM

-- no call for a line has failed, and none was too long
pub record IsCalm (came comes : Come) : Type 0 where
  pub lines : Rose came.faults comes.faults → ⊥
  pub short : comes.overlong ≡ None

-- `prompt` of these, where no call fails and the lines are not too long, is done or out of memory, and ends in no other way
abbrev pub PromptCompletes : Type 0
PromptCompletes =
    (u : Units) (store : Store) (faults : ℕ) (latest : Option Fault) (M IMG IN : List ℕ) (STREAM : Option (List ℕ))
    (after : World) (came comes : Come) (old new : Output) (s : Status)
    → HasPromptFiles u store M IMG IN STREAM → IsUndisturbed (showing store faults latest) after old new → IsCalm came comes
    → OpensPrompt u M IMG IN STREAM (showing store faults latest) after came comes old new s → (s ≡ status.Ok) ⊎ (s ≡ status.NoMemory)
