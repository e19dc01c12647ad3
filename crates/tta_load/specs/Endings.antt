-- Words of the endings by status: a command has a relation `..Endings` beside its clause, which says of each status alone what holds where
-- the command ends so, and a law by which it says what the clause does.
use Rattle.std.specs.Prelude.{◌≡◌, ◌⊎◌, ℕ, List, Option, Some, None, Err}
use Rattle.tta_load.specs.Cited.{input_of, stream_of, Store, World, IsUntouched, Output, NothingOutput, IsPut, IsCut, Units}
use Rattle.tta_load.specs.declared.machine.MachineFile.{MachineFile}
use Rattle.tta_load.specs.declared.status.Status.{Status}
use Rattle.tta_load.specs.declared.status.Status.TheVariants as status
use Rattle.tta_load.specs.Held.{HasText, ReadFailed, IsTooLong}
use Rattle.tta_load.specs.Machines.{IsBadMachine, HasMachine}
use Rattle.tta_load.specs.Inputs.{HasInput}
use Rattle.tta_load.specs.Pairs.{HasPair}
use Rattle.tta_load.specs.Ends.{IsWritten, WriteFailed}
use Rattle.tta_load.specs.Runs.{HasGiven}

-- a file holds a machine of which something is true
abbrev pub OfMachine : Units → (files : Option Store) → (M : List ℕ) → (Is : MachineFile → Type 0) → Type 0
OfMachine u files M Is = (m : HasMachine u files M) × Is m.value

-- files hold a machine and something for it, and something is true of the two
abbrev pub OfPair : {V : Type 0} → Units → (Says : MachineFile → List ℕ → V → Type 0) → (files : Option Store) → (M name : List ℕ)
    → (Is : MachineFile → V → Type 0) → Type 0
OfPair u Says files M name Is = (pair : HasPair u Says files M name) × Is pair.machine.value pair.second.value

-- which file is at fault: that of word 1, or that of word 2 where the machine of the first was taken
abbrev pub PairFault : Units → (files : Option Store) → (M name : List ℕ) → (Fault : List ℕ → Type 0) → (word : ℕ) → Type 0
PairFault u files M name Fault word = ((word ≡ 1) × Fault M) ⊎ ((word ≡ 2) × HasMachine u files M × Fault name)

-- ---- of a command that runs something

-- files hold a machine, something for it, and the words of the machine's data space
abbrev pub HasThree : {V : Type 0} → Units → (Says : MachineFile → List ℕ → V → Type 0) → (files : Option Store) → (M name IN : List ℕ) → Type 0
HasThree u Says files M name IN = OfPair u Says files M name (λ file value. HasInput file.machine.data_words files IN)

-- and, if it is named, an input; and something is true of all of it
abbrev pub OfRun : {V : Type 0} → Units → (Says : MachineFile → List ℕ → V → Type 0) → (files : Option Store) → (M name IN : List ℕ)
    → (STREAM : Option (List ℕ)) → (Is : MachineFile → V → (memory words : List ℕ) → Type 0) → Type 0
OfRun u Says files M name IN STREAM Is =
    OfPair u Says files M name (λ file value. (given : HasGiven file.machine.data_words files IN STREAM) × Is file value given.input.value given.stream.words)

-- a file is named of which something is true
abbrev pub OfNamed : Option (List ℕ) → (Is : List ℕ → Type 0) → Type 0
OfNamed None Is = ⊥
OfNamed (Some name) Is = Is name

-- which file is at fault: one of the two, or that of word 3 where both were taken, or that of word 5, where it is there and all others
-- were taken
abbrev pub RunFault : {V : Type 0} → Units → (Says : MachineFile → List ℕ → V → Type 0) → (files : Option Store) → (M name IN : List ℕ)
    → (STREAM : Option (List ℕ)) → (Fault : List ℕ → Type 0) → (word : ℕ) → Type 0
RunFault u Says files M name IN STREAM Fault word =
    PairFault u files M name Fault word
    ⊎ ((word ≡ 3) × HasPair u Says files M name × Fault IN)
    ⊎ ((word ≡ 5) × HasThree u Says files M name IN × OfNamed STREAM Fault)

-- ---- by status, of all commands that read a machine and something for it

-- a file holds a machine, and what another holds for it is refused with a status
abbrev pub OfRefused : Units → (Refuses : MachineFile → List ℕ → Status → Type 0) → (files : Option Store) → (M name : List ℕ) → Status → Type 0
OfRefused u Refuses files M name s = OfMachine u files M (λ file. HasText files name (λ bytes. Refuses file bytes s))

-- what holds where one of the two is refused for what its file holds, and the command is idle; all other rows are its own
abbrev pub PairEndings : Units → (Refuses : MachineFile → List ℕ → Status → Type 0) → (files : Option Store) → (M name : List ℕ) → (Idle : Type 0)
    → (Rows : Status → Type 0) → Status → Type 0
PairEndings u Refuses files M name Idle Rows (status.BadMachine line code) = Idle × HasText files M (λ text. IsBadMachine u text line code)
PairEndings u Refuses files M name Idle Rows (status.BadImage code word bus) = Idle × OfRefused u Refuses files M name (status.BadImage code word bus)
PairEndings u Refuses files M name Idle Rows (status.BadProgram line code) = Idle × OfRefused u Refuses files M name (status.BadProgram line code)
PairEndings u Refuses files M name Idle Rows (status.DataRange line have) = Idle × OfRefused u Refuses files M name (status.DataRange line have)
PairEndings u Refuses files M name Idle Rows (status.BadAsm line code) = Idle × OfRefused u Refuses files M name (status.BadAsm line code)
PairEndings u Refuses files M name Idle Rows s = Rows s

-- the rows of a command that makes a file of the two: it is written, or its write has failed; or it is not made, for a cause
abbrev pub WriteRows : {V : Type 0} → Units → (Says : MachineFile → List ℕ → V → Type 0) → (Makes : MachineFile → V → List ℕ → Type 0)
    → (Lacks : MachineFile → V → Status → Type 0) → (M name OUT : List ℕ) → (before after : World) → Status → Type 0
WriteRows u Says Makes Lacks M name OUT before after status.Ok =
    OfPair u Says before.contents M name (λ file value. IsWritten (Makes file value) OUT before after)
WriteRows u Says Makes Lacks M name OUT before after status.WriteFault =
    OfPair u Says before.contents M name (λ file value. WriteFailed (Makes file value) OUT before after)
WriteRows u Says Makes Lacks M name OUT before after (status.ReadFault word) = PairFault u before.contents M name (λ n. ReadFailed n before after) word
WriteRows u Says Makes Lacks M name OUT before after (status.TooLong word) = PairFault u before.contents M name (λ n. IsTooLong n before after) word
WriteRows u Says Makes Lacks M name OUT before after status.NoMemory = IsUntouched before after
WriteRows u Says Makes Lacks M name OUT before after s =
    IsUntouched before after × OfPair u Says before.contents M name (λ file value. Lacks file value s)

-- what holds where such a command ends with a status
abbrev pub WriteEndings : {V : Type 0} → Units → (Says : MachineFile → List ℕ → V → Type 0) → (Refuses : MachineFile → List ℕ → Status → Type 0)
    → (Makes : MachineFile → V → List ℕ → Type 0) → (Lacks : MachineFile → V → Status → Type 0)
    → (M name OUT : List ℕ) → (before after : World) → Status → Type 0
WriteEndings u Says Refuses Makes Lacks M name OUT before after s =
    PairEndings u Refuses before.contents M name (IsUntouched before after) (WriteRows u Says Makes Lacks M name OUT before after) s

-- a text is put, or a prefix of it; or there is none, for a cause, and nothing is put
abbrev pub TextRows : (Makes : List ℕ → Type 0) → (Lacks : Status → Type 0) → (old new : Output) → Status → Type 0
TextRows Makes Lacks old new status.Ok = (text : List ℕ) × Makes text × IsPut text old new
TextRows Makes Lacks old new status.WriteFault = (text : List ℕ) × Makes text × IsCut text old new
TextRows Makes Lacks old new s = NothingOutput old new × Lacks s

-- the rows of a command that puts a text of the two
abbrev pub PutRows : {V : Type 0} → Units → (Says : MachineFile → List ℕ → V → Type 0) → (Makes : MachineFile → V → List ℕ → Type 0)
    → (Lacks : MachineFile → V → Status → Type 0) → (M name : List ℕ) → (before after : World) → (old new : Output) → Status → Type 0
PutRows u Says Makes Lacks M name before after old new (status.ReadFault word) =
    NothingOutput old new × PairFault u before.contents M name (λ n. ReadFailed n before after) word
PutRows u Says Makes Lacks M name before after old new (status.TooLong word) =
    NothingOutput old new × PairFault u before.contents M name (λ n. IsTooLong n before after) word
PutRows u Says Makes Lacks M name before after old new status.NoMemory = IsUntouched before after × NothingOutput old new
PutRows u Says Makes Lacks M name before after old new s =
    IsUntouched before after × OfPair u Says before.contents M name (λ file value. TextRows (Makes file value) (Lacks file value) old new s)

-- what holds where such a command ends with a status
abbrev pub PutEndings : {V : Type 0} → Units → (Says : MachineFile → List ℕ → V → Type 0) → (Refuses : MachineFile → List ℕ → Status → Type 0)
    → (Makes : MachineFile → V → List ℕ → Type 0) → (Lacks : MachineFile → V → Status → Type 0)
    → (M name : List ℕ) → (before after : World) → (old new : Output) → Status → Type 0
PutEndings u Says Refuses Makes Lacks M name before after old new s =
    PairEndings u Refuses before.contents M name (IsUntouched before after × NothingOutput old new) (PutRows u Says Makes Lacks M name before after old new) s

-- the rows of a command that runs what was read for the machine, by those of how it reports
abbrev pub RunRows : {V : Type 0} → Units → (Says : MachineFile → List ℕ → V → Type 0)
    → (Rows : MachineFile → V → (memory words : List ℕ) → (old new : Output) → Status → Type 0)
    → (M name IN : List ℕ) → (STREAM : Option (List ℕ)) → (before after : World) → (old new : Output) → Status → Type 0
RunRows u Says Rows M name IN STREAM before after old new (status.BadInput line) =
    IsUntouched before after × NothingOutput old new
    × OfPair u Says before.contents M name (λ file value. HasText before.contents IN (λ bytes. input_of file.machine.data_words bytes ≡ Err line))
RunRows u Says Rows M name IN STREAM before after old new (status.BadStream line) =
    IsUntouched before after × NothingOutput old new × HasThree u Says before.contents M name IN
    × OfNamed STREAM (λ n. HasText before.contents n (λ bytes. stream_of bytes ≡ Err line))
RunRows u Says Rows M name IN STREAM before after old new (status.ReadFault word) =
    NothingOutput old new × RunFault u Says before.contents M name IN STREAM (λ n. ReadFailed n before after) word
RunRows u Says Rows M name IN STREAM before after old new (status.TooLong word) =
    NothingOutput old new × RunFault u Says before.contents M name IN STREAM (λ n. IsTooLong n before after) word
RunRows u Says Rows M name IN STREAM before after old new status.NoMemory = IsUntouched before after × NothingOutput old new
RunRows u Says Rows M name IN STREAM before after old new s =
    IsUntouched before after
    × OfRun u Says before.contents M name IN STREAM (λ file value memory words. Rows file value memory words old new s)

-- what holds where such a command ends with a status
abbrev pub PairRunEndings : {V : Type 0} → Units → (Says : MachineFile → List ℕ → V → Type 0) → (Refuses : MachineFile → List ℕ → Status → Type 0)
    → (Rows : MachineFile → V → (memory words : List ℕ) → (old new : Output) → Status → Type 0)
    → (M name IN : List ℕ) → (STREAM : Option (List ℕ)) → (before after : World) → (old new : Output) → Status → Type 0
PairRunEndings u Says Refuses Rows M name IN STREAM before after old new s =
    PairEndings u Refuses before.contents M name (IsUntouched before after × NothingOutput old new)
    (RunRows u Says Rows M name IN STREAM before after old new) s
