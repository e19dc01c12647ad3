-- What holds where the command `net` ends with a status, for each status.
use Rattle.std.specs.Prelude.{◌≡◌, ◌↔◌, ◌⊎◌, ℕ, ◌<◌, Bool, true, false, List, length, Option, None, Some, Err}
use Rattle.tta_exit_laws.specs.Cited.{Store, World, IsUntouched, Output, NothingOutput, IsPut, IsCut, input_of, Units, Refused, decoded_image, Core, Network, NetworkCore, joined, AreAtRest, cycles, first_states, Feeds, links_of, StepResult, fault_at, HasEnded, Status, HasText, Held, ReadFailed, IsBadMachine, HasMachine, IsImageFor, HasPair, OfPair, AreLinks, cores_in, name_of, word_of, HasCores, net_text, first_fault, Nets}
use Rattle.tta_code.specs.Cycle.{State}
use Rattle.tta_load.specs.declared.status.Status.TheVariants as status
use Rattle.tta_load.specs.Held.{IsTooLong}
use Rattle.tta_load.specs.Endings.{OfMachine}

-- ---- what is run

-- Files hold the links of a net and all of its cores, and something is true of the links, the cores and their data spaces at first.
abbrev pub OfNet : Units → (files : Option Store) → (LINKS : List ℕ) → (names : List (List ℕ)) → (Is : Feeds → List Core → (memories : List (List ℕ)) → Type 0) → Type 0
OfNet u files LINKS names Is =
    let count = cores_in (length names) in
    (links : Held (AreLinks count) files LINKS) × (has : HasCores u files names count) × Is links.value has.cores has.memories

-- Cores that these feed have made rounds, and something is true of the last turn of each and of the states to which they have come.
-- They are running where some core ran in each of the rounds that may be made; else the last round is one in which no core ran.
pub record ComeTo (u : Units) (feeds : Feeds) (cores : List Core) (memories : List (List ℕ)) (rounds : ℕ) (is_running : Bool)
    (Is : List StepResult → List (NetworkCore State) → Type 0) : Type 0 where
  pub last : List StepResult
  pub ended : HasEnded (cycles u cores feeds) (length cores) (joined (first_states cores memories)) rounds is_running last (Is last)

-- files hold all that is run, and something is true of the net, of the last turns and of the states to which its cores have come
abbrev pub OfRounds : Units → (files : Option Store) → (rounds : ℕ) → (LINKS : List ℕ) → (names : List (List ℕ)) → (is_running : Bool)
    → (Is : Network State → List StepResult → List (NetworkCore State) → Type 0) → Type 0
OfRounds u files rounds LINKS names is_running Is =
    OfNet u files LINKS names (λ feeds cores memories. ComeTo u feeds cores memories rounds is_running (Is (cycles u cores feeds)))

-- the fault of the least core that is at one, where these were the last turns
abbrev pub least_fault : (last : List StepResult) → List (NetworkCore State) → Option (ℕ × ℕ)
least_fault last cs = first_fault (fault_at cs) (length last)

-- ---- which file of a core is at fault

-- Something is true of a core, and the files of the cores before it are all taken.
pub record OfCore (u : Units) (files : Option Store) (names : List (List ℕ)) (count : ℕ) (Is : ℕ → Type 0) : Type 0 where
  pub core : ℕ
  pub within : core < count
  pub earlier : HasCores u files names core
  pub is : Is core

-- A file of a core is at fault, named by its word: its machine; or its image, where the machine is taken; or the words of its data space,
-- where the two are.
abbrev pub CoreFault : Units → (files : Option Store) → (names : List (List ℕ)) → (Fault : List ℕ → Type 0) → (word core : ℕ) → Type 0
CoreFault u files names Fault word core =
    ((word ≡ word_of core 0) × Fault (name_of names core 0))
    ⊎ ((word ≡ word_of core 1) × HasMachine u files (name_of names core 0) × Fault (name_of names core 1))
    ⊎ ((word ≡ word_of core 2) × HasPair u IsImageFor files (name_of names core 0) (name_of names core 1) × Fault (name_of names core 2))

-- A file of a core is refused, named by its word, with a number: the machine with that of its refusal at some line; the image, where the
-- machine is taken, with that of its refusal at some word and bus; or, where the two are taken, the words of the data space with 85, at
-- some line.
abbrev pub CoreRefused : Units → (files : Option Store) → (names : List (List ℕ)) → (word code core : ℕ) → Type 0
CoreRefused u files names word code core =
    ((word ≡ word_of core 0) × (line : ℕ) × HasText files (name_of names core 0) (λ text. IsBadMachine u text line code))
    ⊎ ((word ≡ word_of core 1)
    × OfMachine u files (name_of names core 0) (λ file. (at : ℕ) × (bus : ℕ)
    × HasText files (name_of names core 1) (λ bytes. decoded_image file.machine file.digest bytes ≡ Err (Refused code at bus))))
    ⊎ ((word ≡ word_of core 2) × (code ≡ 85)
    × OfPair u IsImageFor files (name_of names core 0) (name_of names core 1) (λ file whole. (line : ℕ)
    × HasText files (name_of names core 2) (λ bytes. input_of file.machine.data_words bytes ≡ Err line)))

-- the file of the links is at fault, which word 2 names; or the links are taken, and a file of a core is at fault where all before it are
-- taken
abbrev pub NetFault : Units → (files : Option Store) → (LINKS : List ℕ) → (names : List (List ℕ)) → (Fault : List ℕ → Type 0) → (word : ℕ) → Type 0
NetFault u files LINKS names Fault word =
    let count = cores_in (length names) in
    ((word ≡ 2) × Fault LINKS) ⊎ (Held (AreLinks count) files LINKS × OfCore u files names count (CoreFault u files names Fault word))

-- ---- how it ends by its status

-- what holds where `net N LINKS` with three names for each core ends with a status
abbrev pub NetEndings : Units → (rounds : ℕ) → (LINKS : List ℕ) → (names : List (List ℕ)) → (before after : World) → (old new : Output) → Status → Type 0
NetEndings u rounds LINKS names before after old new status.Ok =
    IsUntouched before after
    × OfRounds u before.contents rounds LINKS names false (λ net last cs. (least_fault last cs ≡ None) × AreAtRest net cs × IsPut (net_text cs last) old new)
NetEndings u rounds LINKS names before after old new (status.MachineFault code cycle) =
    IsUntouched before after
    × OfRounds u before.contents rounds LINKS names false (λ net last cs. (least_fault last cs ≡ Some (code, cycle)) × IsPut (net_text cs last) old new)
NetEndings u rounds LINKS names before after old new status.Running =
    IsUntouched before after × OfRounds u before.contents rounds LINKS names true (λ net last cs. IsPut (net_text cs last) old new)
NetEndings u rounds LINKS names before after old new status.WriteFault =
    IsUntouched before after
    × (is_running : Bool) × OfRounds u before.contents rounds LINKS names is_running (λ net last cs. IsCut (net_text cs last) old new)
NetEndings u rounds LINKS names before after old new (status.BadLinks line code) =
    IsUntouched before after × NothingOutput old new
    × HasText before.contents LINKS (λ bytes. links_of (cores_in (length names)) bytes ≡ Err (line, code))
NetEndings u rounds LINKS names before after old new (status.BadCore word code) =
    let count = cores_in (length names) in
    IsUntouched before after × NothingOutput old new × Held (AreLinks count) before.contents LINKS
    × OfCore u before.contents names count (CoreRefused u before.contents names word code)
NetEndings u rounds LINKS names before after old new (status.ReadFault word) =
    NothingOutput old new × NetFault u before.contents LINKS names (λ name. ReadFailed name before after) word
NetEndings u rounds LINKS names before after old new (status.TooLong word) =
    NothingOutput old new × NetFault u before.contents LINKS names (λ name. IsTooLong name before after) word
NetEndings u rounds LINKS names before after old new status.NoMemory = IsUntouched before after × NothingOutput old new
NetEndings u rounds LINKS names before after old new s = ⊥

-- the clause of `net` says this of each status
abbrev pub NetByStatus : Type 0
NetByStatus =
    (u : Units) (rounds : ℕ) (LINKS : List ℕ) (names : List (List ℕ)) (before after : World) (old new : Output) (s : Status)
    → Nets u rounds LINKS names before after old new s ↔ NetEndings u rounds LINKS names before after old new s
