-- What `prompt` does, and why it does not.
use Rattle.std.specs.Prelude.{◌≡◌, ◌⊎◌, ◌↔◌, ℕ, List, [], Option, Result, Ok, Err}
use Rattle.tta_inspect.specs.Cited.{input_of, stream_of, over, Store, World, IsUntouched, Output, NothingOutput, Come, Units, Machine, Whole, data_in, start, Refused, decoded_image, Debugged, Session', PromptError, LinesFailed, TooLong, NoMemory, SinkFailed, Prompts, MachineFile, Status, HasText, ReadFailed, IsTooLong, IsBadMachine, IsImageFor, RefusesImage, HasPair, PairFails, ReadsPair, HasGiven, OfPair, PairFault, HasThree, OfNamed, GivenFails, ReadsGiven}
use Rattle.tta_code.specs.declared.code.Code.{Code}
use Rattle.tta_load.specs.declared.status.Status.TheVariants as status
use Rattle.tta_load.specs.Endings.{OfMachine}

-- ---- what was read

-- why the files of a session are not taken: those of the machine and the image, or after them what the run is given
abbrev pub FilesFail : Units → (M IMG IN : List ℕ) → (STREAM : Option (List ℕ)) → (before after : World) → Status → Type 0
FilesFail u M IMG IN STREAM before after s =
    PairFails u RefusesImage M IMG before after s
    ⊎ ((pair : HasPair u IsImageFor before.contents M IMG) × GivenFails 4 pair.machine.value.machine.data_words IN STREAM before after s)

-- all files were read, and none was touched
pub record ReadsFiles (u : Units) (M IMG IN : List ℕ) (STREAM : Option (List ℕ)) (file : MachineFile) (whole : Whole) (memory words : List ℕ)
    (before after : World) : Type 0 where
  pub pair : ReadsPair u IsImageFor M IMG file whole before after
  pub given : ReadsGiven file.machine.data_words IN STREAM memory words before after

-- they were read, or there is a cause
abbrev pub FilesEnd : {T : Type 0} → Units → (M IMG IN : List ℕ) → (STREAM : Option (List ℕ)) → (before after : World)
    → (file : T → MachineFile) → (whole : T → Whole) → (memory words : T → List ℕ) → Result T Status → Type 0
FilesEnd u M IMG IN STREAM before after file whole memory words (Ok v) =
    ReadsFiles u M IMG IN STREAM (file v) (whole v) (memory v) (words v) before after
FilesEnd u M IMG IN STREAM before after file whole memory words (Err s) = FilesFail u M IMG IN STREAM before after s

-- ---- how the command ends

-- no line has come, and nothing was put
pub record IsIdle (came comes : Come) (old new : Output) : Type 0 where
  pub lines : comes ≡ came
  pub quiet : NothingOutput old new

-- what a session begins with: the run before its first cycle, and no breakpoints
abbrev pub at_first : MachineFile → Whole → (memory words : List ℕ) → Debugged
at_first file whole memory words = record { state = start file.machine (over (data_in whole) memory) words; stops = [] }

-- a session over a run that stands so has ended with this answer
abbrev pub Ended : Units → Machine → Code → (input : List ℕ) → Debugged → (came comes : Come) → (old new : Output) → Result (Unit {0}) PromptError → Type 0
Ended u m code input d came comes old new result = (h : Session') × Prompts u m code input d h came comes old new result

-- how the command ends by how its session does; without memory for the run there is none
abbrev pub EndsAs : Units → Machine → Code → (input : List ℕ) → Debugged → (came comes : Come) → (old new : Output) → Status → Type 0
EndsAs u m code input d came comes old new status.Ok = Ended u m code input d came comes old new (Ok tt)
EndsAs u m code input d came comes old new (status.ReadFault word) = (word ≡ 0) × Ended u m code input d came comes old new (Err LinesFailed)
EndsAs u m code input d came comes old new (status.TooLong word) = (word ≡ 0) × Ended u m code input d came comes old new (Err TooLong)
EndsAs u m code input d came comes old new status.WriteFault = Ended u m code input d came comes old new (Err SinkFailed)
EndsAs u m code input d came comes old new status.NoMemory =
    Ended u m code input d came comes old new (Err NoMemory) ⊎ IsIdle came comes old new
EndsAs u m code input d came comes old new s = ⊥

-- the same of a session over the run of code with data from its first cycle on
abbrev pub SessionEnds : Units → MachineFile → Whole → (memory words : List ℕ) → (came comes : Come) → (old new : Output) → Status → Type 0
SessionEnds u file whole memory words came comes old new s =
    EndsAs u file.machine whole.code words (at_first file whole memory words) came comes old new s

-- How `prompt M IMG IN` and `prompt M IMG IN STREAM` end: a file is refused, and the command is idle; or no file is touched and the
-- session ends so. Each ending but out of memory comes only where its cause holds.
abbrev pub OpensPrompt : Units → (M IMG IN : List ℕ) → (STREAM : Option (List ℕ)) → (before after : World) → (came comes : Come) → (old new : Output) → Status → Type 0
OpensPrompt u M IMG IN STREAM before after came comes old new s =
    (FilesFail u M IMG IN STREAM before after s × IsIdle came comes old new)
    ⊎ ((pair : HasPair u IsImageFor before.contents M IMG)
    × (given : HasGiven pair.machine.value.machine.data_words before.contents IN STREAM)
    × IsUntouched before after × SessionEnds u pair.machine.value pair.second.value given.input.value given.stream.words came comes old new s)

-- ---- how it ends by its status

-- files hold all that is run, and a session over it has ended so
abbrev pub HasPrompt : Units → (M IMG IN : List ℕ) → (STREAM : Option (List ℕ)) → (before after : World) → (came comes : Come) → (old new : Output) → Result (Unit {0}) PromptError → Type 0
HasPrompt u M IMG IN STREAM before after came comes old new result =
    IsUntouched before after
    × OfPair u IsImageFor before.contents M IMG (λ file whole.
    (given : HasGiven file.machine.data_words before.contents IN STREAM)
    × Ended u file.machine whole.code given.stream.words (at_first file whole given.input.value given.stream.words) came comes old new result)

-- which file is at fault: one of the two, or that of word 3 where both were taken, or that of word 4, where it is there and all others
-- were taken
abbrev pub PromptFault : Units → (files : Option Store) → (M IMG IN : List ℕ) → (STREAM : Option (List ℕ)) → (Fault : List ℕ → Type 0) → (word : ℕ) → Type 0
PromptFault u files M IMG IN STREAM Fault word =
    PairFault u files M IMG Fault word
    ⊎ ((word ≡ 3) × HasPair u IsImageFor files M IMG × Fault IN)
    ⊎ ((word ≡ 4) × HasThree u IsImageFor files M IMG IN × OfNamed STREAM Fault)

-- what holds where `prompt` ends with a status. A fault of word 0 is one of the lines.
abbrev pub PromptEndings : Units → (M IMG IN : List ℕ) → (STREAM : Option (List ℕ)) → (before after : World) → (came comes : Come) → (old new : Output) → Status → Type 0
PromptEndings u M IMG IN STREAM before after came comes old new status.Ok = HasPrompt u M IMG IN STREAM before after came comes old new (Ok tt)
PromptEndings u M IMG IN STREAM before after came comes old new (status.BadMachine line code) =
    IsUntouched before after × IsIdle came comes old new × HasText before.contents M (λ text. IsBadMachine u text line code)
PromptEndings u M IMG IN STREAM before after came comes old new (status.BadImage code word bus) =
    IsUntouched before after × IsIdle came comes old new
    × OfMachine u before.contents M (λ file. HasText before.contents IMG (λ bytes. decoded_image file.machine file.digest bytes ≡ Err (Refused code word bus)))
PromptEndings u M IMG IN STREAM before after came comes old new (status.BadInput line) =
    IsUntouched before after × IsIdle came comes old new
    × OfPair u IsImageFor before.contents M IMG (λ file whole. HasText before.contents IN (λ bytes. input_of file.machine.data_words bytes ≡ Err line))
PromptEndings u M IMG IN STREAM before after came comes old new (status.BadStream line) =
    IsUntouched before after × IsIdle came comes old new × HasThree u IsImageFor before.contents M IMG IN
    × OfNamed STREAM (λ name. HasText before.contents name (λ bytes. stream_of bytes ≡ Err line))
PromptEndings u M IMG IN STREAM before after came comes old new (status.ReadFault word) =
    (IsIdle came comes old new × PromptFault u before.contents M IMG IN STREAM (λ name. ReadFailed name before after) word)
    ⊎ ((word ≡ 0) × HasPrompt u M IMG IN STREAM before after came comes old new (Err LinesFailed))
PromptEndings u M IMG IN STREAM before after came comes old new status.WriteFault = HasPrompt u M IMG IN STREAM before after came comes old new (Err SinkFailed)
PromptEndings u M IMG IN STREAM before after came comes old new (status.TooLong word) =
    (IsIdle came comes old new × PromptFault u before.contents M IMG IN STREAM (λ name. IsTooLong name before after) word)
    ⊎ ((word ≡ 0) × HasPrompt u M IMG IN STREAM before after came comes old new (Err TooLong))
PromptEndings u M IMG IN STREAM before after came comes old new status.NoMemory =
    (IsUntouched before after × IsIdle came comes old new)
    ⊎ HasPrompt u M IMG IN STREAM before after came comes old new (Err NoMemory)
PromptEndings u M IMG IN STREAM before after came comes old new s = ⊥

-- its clause says this of each status
abbrev pub PromptByStatus : Type 0
PromptByStatus =
    (u : Units) (M IMG IN : List ℕ) (STREAM : Option (List ℕ)) (before after : World) (came comes : Come) (old new : Output) (s : Status)
    → OpensPrompt u M IMG IN STREAM before after came comes old new s ↔ PromptEndings u M IMG IN STREAM before after came comes old new s
