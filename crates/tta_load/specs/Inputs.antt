-- Files that hold the words of a data space, and those of an input.
use Rattle.std.specs.Prelude.{◌≡◌, ◌⊎◌, ℕ, List, [], Option, None, Some, Result, Ok, Err}
use Rattle.tta_load.specs.Cited.{Store, World, IsUntouched, input_of, stream_of}
use Rattle.tta_load.specs.declared.status.Status.{Status}
use Rattle.tta_load.specs.declared.status.Status.TheVariants as status
use Rattle.tta_load.specs.Held.{IsHeld, Held, FileFails}

-- bytes give the words that fill a data space of this size
abbrev pub Fills : (space : ℕ) → (bytes memory : List ℕ) → Type 0
Fills space bytes memory = input_of space bytes ≡ Ok memory

-- why bytes fill no data space of this size: a line is no word, or one more than the space has
abbrev pub RefusesInput : (space : ℕ) → (bytes : List ℕ) → Status → Type 0
RefusesInput space bytes (status.BadInput line) = input_of space bytes ≡ Err line
RefusesInput space bytes status.NoMemory = Unit {0}
RefusesInput space bytes s = ⊥

-- the file of a name holds the words of a data space of this size
abbrev pub HasInput : (space : ℕ) → (files : Option Store) → (IN : List ℕ) → Type 0
HasInput space files IN = Held (Fills space) files IN

-- bytes give the words of an input
abbrev pub IsInput : (bytes words : List ℕ) → Type 0
IsInput bytes words = stream_of bytes ≡ Ok words

-- why bytes give no input: a line is no word
abbrev pub RefusesStream : (bytes : List ℕ) → Status → Type 0
RefusesStream bytes (status.BadStream line) = stream_of bytes ≡ Err line
RefusesStream bytes status.NoMemory = Unit {0}
RefusesStream bytes s = ⊥

-- the words are those of the input that a file holds; where no file is named, there are none
abbrev pub IsStream : (files : Option Store) → (STREAM : Option (List ℕ)) → (words : List ℕ) → Type 0
IsStream files None words = words ≡ []
IsStream files (Some name) words = IsHeld IsInput files name words

-- there are words of the input
pub record HasStream (files : Option Store) (STREAM : Option (List ℕ)) : Type 0 where
  pub words : List ℕ
  pub is : IsStream files STREAM words

-- why the input, which a word of this number names where it is there, is not taken
abbrev pub StreamFails : (word : ℕ) → (STREAM : Option (List ℕ)) → (before after : World) → Status → Type 0
StreamFails word None before after s = ⊥
StreamFails word (Some name) before after s = FileFails RefusesStream name word before after s

-- these are the words of the input, and no file was touched
pub record ReadsStream (STREAM : Option (List ℕ)) (words : List ℕ) (before after : World) : Type 0 where
  pub is : IsStream before.contents STREAM words
  pub untouched : IsUntouched before after

-- the words of the input were read, or their file is refused
abbrev pub StreamEnds : {T : Type 0} → (word : ℕ) → (STREAM : Option (List ℕ)) → (before after : World) → (T → List ℕ) → Result T Status → Type 0
StreamEnds word STREAM before after items (Ok v) = ReadsStream STREAM (items v) before after
StreamEnds word STREAM before after items (Err s) = StreamFails word STREAM before after s

-- why what a run is given is not taken: the words of the data space, which word 3 names, or after them those of the input, which a
-- word of this number names
abbrev pub GivenFails : (word space : ℕ) → (IN : List ℕ) → (STREAM : Option (List ℕ)) → (before after : World) → Status → Type 0
GivenFails word space IN STREAM before after s =
    FileFails (RefusesInput space) IN 3 before after s ⊎ (HasInput space before.contents IN × StreamFails word STREAM before after s)

-- these are the words of the data space and of the input, and no file was touched
pub record ReadsGiven (space : ℕ) (IN : List ℕ) (STREAM : Option (List ℕ)) (memory words : List ℕ) (before after : World) : Type 0 where
  pub input : IsHeld (Fills space) before.contents IN memory
  pub stream : IsStream before.contents STREAM words
  pub untouched : IsUntouched before after

-- the words that a run is given were read, or a file of them is refused
abbrev pub GivenEnds : {T : Type 0} → (word space : ℕ) → (IN : List ℕ) → (STREAM : Option (List ℕ)) → (before after : World)
    → (memory words : T → List ℕ) → Result T Status → Type 0
GivenEnds word space IN STREAM before after memory words (Ok v) = ReadsGiven space IN STREAM (memory v) (words v) before after
GivenEnds word space IN STREAM before after memory words (Err s) = GivenFails word space IN STREAM before after s
