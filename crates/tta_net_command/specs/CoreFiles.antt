-- The files of a net: the links of its cores, and three for each core: its machine, the image of its code, and the words of its data
-- space.
use Rattle.std.specs.Prelude.{◌≡◌, ◌⊎◌, ℕ, ◌+◌, ◌*◌, ◌<◌, ◌/◌, List, [], length, Option, Some, slice_get, slice_index_or, Result, Ok, Err}
use Rattle.tta_net_command.specs.Cited.{Store, World, IsUntouched, Units, over, Whole, data_in, Core, Feeds, links_of, MachineFile, Status, IsHeld, IsTaken, FileFails, IsDescribed, RefusesMachine, HasMachine, IsImageFor, RefusesImage, Fills, RefusesInput, HasPair, ReadsPair}
use Rattle.tta_load.specs.declared.status.Status.TheVariants as status
use Rattle.tta_net_command.specs.Request.{files_each}

-- ---- links

-- bytes are links of so many cores: which core feeds each
abbrev pub AreLinks : (count : ℕ) → (bytes : List ℕ) → Feeds → Type 0
AreLinks count bytes feeds = links_of count bytes ≡ Ok feeds

-- why bytes are none: the first line that is refused
abbrev pub RefusesLinks : (count : ℕ) → (bytes : List ℕ) → Status → Type 0
RefusesLinks count bytes (status.BadLinks line code) = links_of count bytes ≡ Err (line, code)
RefusesLinks count bytes status.NoMemory = Unit {0}
RefusesLinks count bytes s = ⊥

-- ---- names

-- how many cores have so many files
abbrev pub cores_in : (files : ℕ) → ℕ
cores_in files = files / files_each

-- the name of a core's file: its machine is the first (0), its image the second (1), and the words of its data space are the third (2)
abbrev pub name_of : (names : List (List ℕ)) → (core part : ℕ) → List ℕ
name_of names core part = slice_index_or names (files_each * core + part) []

-- the word of the command line that has it
abbrev pub word_of : (core part : ℕ) → ℕ
word_of core part = files_each * core + part + 3

-- ---- one core

-- Three files give a core and its data space at first: a machine, code for it, and words over which the data of the image are laid.
pub record IsCoreFrom (u : Units) (files : Option Store) (names : List (List ℕ)) (k : ℕ) (core : Core) (memory : List ℕ) : Type 0 where
  pub file : MachineFile
  pub whole : Whole
  pub words : List ℕ
  pub machine : IsHeld (IsDescribed u) files (name_of names k 0) file
  pub image : IsHeld (IsImageFor file) files (name_of names k 1) whole
  pub input : IsHeld (Fills file.machine.data_words) files (name_of names k 2) words
  pub is : core ≡ record { machine = file.machine; code = whole.code }
  pub laid : memory ≡ over (data_in whole) words

-- The ending for a core's file of what its reader says: a refusal is told by the file's word and the number of the refusal, which is 85
-- for the words of a data space.
abbrev pub as_core : (word : ℕ) → Status → Status
as_core word (status.BadMachine line code) = status.BadCore word code
as_core word (status.BadImage code at bus) = status.BadCore word code
as_core word (status.BadInput line) = status.BadCore word 85
as_core word s = s

-- a core's file that a word names is not taken
pub record CoreFileFails (Refuses : List ℕ → Status → Type 0) (name : List ℕ) (word : ℕ) (before after : World) (s : Status) : Type 0 where
  pub told : Status
  pub fails : FileFails Refuses name word before after told
  pub is : s ≡ as_core word told

-- a core's file was taken, or there is a cause
abbrev pub CoreFileEnds : {T V : Type 0} → (Says : List ℕ → V → Type 0) → (Refuses : List ℕ → Status → Type 0) → (name : List ℕ) (word : ℕ)
    → (before after : World) → (value : T → V) → Result T Status → Type 0
CoreFileEnds Says Refuses name word before after value (Ok v) = IsTaken Says name (value v) before after
CoreFileEnds Says Refuses name word before after value (Err s) = CoreFileFails Refuses name word before after s

-- why there is no machine with code for a core: the first of the two files that is refused, or could not be read
abbrev pub CorePairFails : Units → (names : List (List ℕ)) → (core : ℕ) → (before after : World) → Status → Type 0
CorePairFails u names core before after s =
    CoreFileFails (RefusesMachine u) (name_of names core 0) (word_of core 0) before after s
    ⊎ ((m : HasMachine u before.contents (name_of names core 0))
    × CoreFileFails (RefusesImage m.value) (name_of names core 1) (word_of core 1) before after s)

-- a machine with code for a core was taken, or there is a cause
abbrev pub CorePairEnds : {T : Type 0} → Units → (names : List (List ℕ)) → (core : ℕ) → (before after : World) → (file : T → MachineFile) → (whole : T → Whole)
    → Result T Status → Type 0
CorePairEnds u names core before after file whole (Ok v) =
    ReadsPair u IsImageFor (name_of names core 0) (name_of names core 1) (file v) (whole v) before after
CorePairEnds u names core before after file whole (Err s) = CorePairFails u names core before after s

-- why a core is not taken: so, or the words of its data space are not
abbrev pub CoreFails : Units → (names : List (List ℕ)) → (core : ℕ) → (before after : World) → Status → Type 0
CoreFails u names core before after s =
    CorePairFails u names core before after s
    ⊎ ((pair : HasPair u IsImageFor before.contents (name_of names core 0) (name_of names core 1))
    × CoreFileFails (RefusesInput pair.machine.value.machine.data_words) (name_of names core 2) (word_of core 2) before after s)

-- these are the core and its data space at first, and no file was touched
pub record TakesCore (u : Units) (names : List (List ℕ)) (k : ℕ) (core : Core) (memory : List ℕ) (before after : World) : Type 0 where
  pub from : IsCoreFrom u before.contents names k core memory
  pub untouched : IsUntouched before after

-- a core was taken, or there is a cause
abbrev pub CoreEnds : {T : Type 0} → Units → (names : List (List ℕ)) → (k : ℕ) → (before after : World) → (core : T → Core) → (memory : T → List ℕ)
    → Result T Status → Type 0
CoreEnds u names k before after core memory (Ok v) = TakesCore u names k (core v) (memory v) before after
CoreEnds u names k before after core memory (Err s) = CoreFails u names k before after s

-- ---- all cores

-- the files of the first cores give these, and these data spaces at first
pub record AreCoresFrom (u : Units) (files : Option Store) (names : List (List ℕ)) (cores : List Core) (memories : List (List ℕ)) : Type 0 where
  pub count : length memories ≡ length cores
  pub each : (k : ℕ) (core : Core) (memory : List ℕ) → slice_get cores k ≡ Some core → slice_get memories k ≡ Some memory
      → IsCoreFrom u files names k core memory

-- the files of so many cores give cores
pub record HasCores (u : Units) (files : Option Store) (names : List (List ℕ)) (count : ℕ) : Type 0 where
  pub cores : List Core
  pub memories : List (List ℕ)
  pub many : length cores ≡ count
  pub are : AreCoresFrom u files names cores memories

-- why not all cores are taken: the first core that is not, where all before it are
pub record CoresFail (u : Units) (names : List (List ℕ)) (count : ℕ) (before after : World) (s : Status) : Type 0 where
  pub core : ℕ
  pub within : core < count
  pub earlier : HasCores u before.contents names core
  pub fails : CoreFails u names core before after s

-- these are the cores and their data spaces at first, and no file was touched
pub record TakesCores (u : Units) (names : List (List ℕ)) (count : ℕ) (cores : List Core) (memories : List (List ℕ)) (before after : World) : Type 0 where
  pub many : length cores ≡ count
  pub are : AreCoresFrom u before.contents names cores memories
  pub untouched : IsUntouched before after

-- all cores were taken, or there is a cause
abbrev pub CoresEnd : {T : Type 0} → Units → (names : List (List ℕ)) → (count : ℕ) → (before after : World) → (cores : T → List Core)
    → (memories : T → List (List ℕ)) → Result T Status → Type 0
CoresEnd u names count before after cores memories (Ok v) = TakesCores u names count (cores v) (memories v) before after
CoresEnd u names count before after cores memories (Err s) = CoresFail u names count before after s
