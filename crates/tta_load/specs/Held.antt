-- What the file of a name holds, and why it is not taken.
use Rattle.std.specs.Prelude.{◌≡◌, ◌≤◌, ◌<◌, ◌⊎◌, ◌^◌, ℕ, List, length, Option, Some, Result, Ok, Err}
use Rattle.tta_load.specs.Cited.{Read, Store, Rose, Holds, HoldsMore, World, IsUntouched}
use Rattle.tta_load.specs.declared.status.Status.{Status}
use Rattle.tta_load.specs.declared.status.Status.TheVariants as status

-- a file is read up to 16 MiB; one of more bytes holds nothing of what follows
abbrev pub limit : ℕ
limit = 2 ^ 24

-- the file of a name holds bytes of which something is true
pub record HasText (files : Option Store) (name : List ℕ) (Is : List ℕ → Type 0) : Type 0 where
  pub text : List ℕ
  pub holds : Holds files name text
  pub short : length text ≤ limit
  pub is : Is text

-- the file of a name holds bytes that say this value
pub record IsHeld {V : Type 0} (Says : List ℕ → V → Type 0) (files : Option Store) (name : List ℕ) (value : V) : Type 0 where
  pub bytes : List ℕ
  pub holds : Holds files name bytes
  pub short : length bytes ≤ limit
  pub says : Says bytes value

-- the file of a name holds bytes that say a value
pub record Held {V : Type 0} (Says : List ℕ → V → Type 0) (files : Option Store) (name : List ℕ) : Type 0 where
  pub value : V
  pub held : IsHeld Says files name value

-- ---- reading

-- a read of this name has failed, and no file has changed
pub record ReadFailed (name : List ℕ) (before after : World) : Type 0 where
  pub contents : after.contents ≡ before.contents
  pub rose : Rose before.faults after.faults
  pub latest : after.latest ≡ Some (Read name)

-- a file has more bytes than are read
pub record IsTooLong (name : List ℕ) (before after : World) : Type 0 where
  pub count : ℕ
  pub more : limit < count
  pub holds : HoldsMore before.contents name count
  pub untouched : IsUntouched before after

-- why the file that a word names was not read
abbrev pub ReadFails : (name : List ℕ) (word : ℕ) → (before after : World) → Status → Type 0
ReadFails name word before after (status.ReadFault w) = (w ≡ word) × ReadFailed name before after
ReadFails name word before after (status.TooLong w) = (w ≡ word) × IsTooLong name before after
ReadFails name word before after status.NoMemory = IsUntouched before after
ReadFails name word before after s = ⊥

-- the bytes of a file were read
pub record WasRead (name bytes : List ℕ) (before after : World) : Type 0 where
  pub holds : Holds before.contents name bytes
  pub short : length bytes ≤ limit
  pub untouched : IsUntouched before after

-- a file was read, or there is a cause
abbrev pub ReadEnds : {T : Type 0} → (name : List ℕ) (word : ℕ) → (before after : World) → (T → List ℕ) → Result T Status → Type 0
ReadEnds name word before after items (Ok v) = WasRead name (items v) before after
ReadEnds name word before after items (Err s) = ReadFails name word before after s

-- ---- taking

-- bytes say a value, or they are refused
abbrev pub TakesBytes : {T V : Type 0} → (Says : List ℕ → V → Type 0) → (Refuses : List ℕ → Status → Type 0) → (bytes : List ℕ)
    → (value : T → V) → Result T Status → Type 0
TakesBytes Says Refuses bytes value (Ok v) = Says bytes (value v)
TakesBytes Says Refuses bytes value (Err s) = Refuses bytes s

-- why the file that a word names was not taken: it was not read, or it was and its bytes are refused
abbrev pub FileFails : (Refuses : List ℕ → Status → Type 0) → (name : List ℕ) (word : ℕ) → (before after : World) → Status → Type 0
FileFails Refuses name word before after s =
    ReadFails name word before after s ⊎ (IsUntouched before after × HasText before.contents name (λ bytes. Refuses bytes s))

-- a file holds this value, and no file was touched
pub record IsTaken {V : Type 0} (Says : List ℕ → V → Type 0) (name : List ℕ) (value : V) (before after : World) : Type 0 where
  pub held : IsHeld Says before.contents name value
  pub untouched : IsUntouched before after

-- a file was taken, or there is a cause
abbrev pub FileEnds : {T V : Type 0} → (Says : List ℕ → V → Type 0) → (Refuses : List ℕ → Status → Type 0) → (name : List ℕ) (word : ℕ)
    → (before after : World) → (value : T → V) → Result T Status → Type 0
FileEnds Says Refuses name word before after value (Ok v) = IsTaken Says name (value v) before after
FileEnds Says Refuses name word before after value (Err s) = FileFails Refuses name word before after s

-- ---- making

-- only memory can lack
abbrev pub no_memory : Status → Type 0
no_memory s = s ≡ status.NoMemory

-- bytes were made of which something is true, or they were not, for a cause
abbrev pub MadeEnds : {T : Type 0} → (Makes : List ℕ → Type 0) → (Lacks : Status → Type 0) → (items : T → List ℕ) → Result T Status → Type 0
MadeEnds Makes Lacks items (Ok v) = Makes (items v)
MadeEnds Makes Lacks items (Err s) = Lacks s
