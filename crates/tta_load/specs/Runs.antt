-- How a command that runs something ends: word 1 names a machine, word 2 what is run, word 3 the words of the machine's data
-- space, and word 5, where it is there, those of the input.
use Rattle.std.specs.Prelude.{◌⊎◌, ◌^◌, ℕ, List, Option}
use Rattle.tta_load.specs.Cited.{Store, World, IsUntouched, Output, NothingOutput, Units, digits_of}
use Rattle.tta_load.specs.declared.machine.MachineFile.{MachineFile}
use Rattle.tta_load.specs.declared.status.Status.{Status}
use Rattle.tta_load.specs.Inputs.{HasInput, HasStream, GivenFails}
use Rattle.tta_load.specs.Pairs.{HasPair, PairFails}

-- how far a run is to go: one to fifteen decimal digits below 2 ^ 48
abbrev pub bound_of : List ℕ → Option ℕ
bound_of word = digits_of 10 15 (2 ^ 48) word

-- files hold the words of a data space of this size, and, if it is named, an input
pub record HasGiven (space : ℕ) (files : Option Store) (IN : List ℕ) (STREAM : Option (List ℕ)) : Type 0 where
  pub input : HasInput space files IN
  pub stream : HasStream files STREAM

-- What is run is known, and how it reports by what it is given. Either that is refused, and nothing is put, or no file is
-- touched and the run reports.
abbrev pub GivenRuns : (space : ℕ) → (Reports : (memory words : List ℕ) → (old new : Output) → Status → Type 0)
    → (IN : List ℕ) → (STREAM : Option (List ℕ)) → (before after : World) → (old new : Output) → Status → Type 0
GivenRuns space Reports IN STREAM before after old new s =
    (GivenFails 5 space IN STREAM before after s × NothingOutput old new)
    ⊎ ((given : HasGiven space before.contents IN STREAM)
    × IsUntouched before after × Reports given.input.value given.stream.words old new s)

-- The same from the machine on, by what word 2 is and how it reports.
abbrev pub PairRuns : {V : Type 0} → Units → (Says : MachineFile → List ℕ → V → Type 0) → (Refuses : MachineFile → List ℕ → Status → Type 0)
    → (Reports : MachineFile → V → (memory words : List ℕ) → (old new : Output) → Status → Type 0)
    → (M name IN : List ℕ) → (STREAM : Option (List ℕ)) → (before after : World) → (old new : Output) → Status → Type 0
PairRuns u Says Refuses Reports M name IN STREAM before after old new s =
    (PairFails u Refuses M name before after s × NothingOutput old new)
    ⊎ ((pair : HasPair u Says before.contents M name)
    × GivenRuns pair.machine.value.machine.data_words (Reports pair.machine.value pair.second.value) IN STREAM before after old new s)
