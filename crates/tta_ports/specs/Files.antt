-- What the answers of a read and of a write say of the files.
use Rattle.std.specs.Prelude.{◌≡◌, ◌≤◌, ◌⊎◌, ℕ, Bool, true, false, List, length, take, Option, Some, option_map, IfSome, IsSomeAnd, Result, Ok, Err}
use Rattle.tta_ports.specs.declared.error.ReadError.{ReadError}
use Rattle.tta_ports.specs.declared.error.ReadError.TheVariants.{Failed, TooLong, NoMemory}
use Rattle.tta_ports.specs.declared.error.WriteError.{WriteError}
use Rattle.tta_ports.specs.declared.error.WriteError.TheVariants.{Failed as WriteFailed, NoMemory as WriteNoMemory}
use Rattle.tta_ports.specs.Store.{Store, file_at, with_file}

-- the name holds these bytes, where the files show them
abbrev pub Holds : Option Store → List ℕ → List ℕ → Type 0
Holds files name bytes = IfSome files (λ s. file_at s name ≡ Some bytes)

-- the name holds that many bytes or more, where the files show them
abbrev pub HoldsMore : Option Store → List ℕ → ℕ → Type 0
HoldsMore files name count =
    IfSome files (λ s. IsSomeAnd (file_at s name) (λ bytes. count ≤ length bytes))

-- the files once the name holds these bytes
abbrev pub written : List ℕ → List ℕ → Option Store → Option Store
written name bytes files = option_map (λ s. with_file s name bytes) files

-- the name holds a prefix of these bytes, or all is as it was
abbrev pub IsPartlyWritten : List ℕ → List ℕ → Option Store → Option Store → Type 0
IsPartlyWritten name bytes old new =
    ((count : ℕ) × (new ≡ written name (take count bytes) old)) ⊎ (new ≡ old)

-- what a write has done, by its answer
abbrev pub WritesFile : {T : Type 0}
    → List ℕ → List ℕ → Option Store → Option Store → Result T WriteError → Type 0
WritesFile name bytes old new (Ok _) = new ≡ written name bytes old
WritesFile name bytes old new (Err WriteFailed) = IsPartlyWritten name bytes old new
WritesFile name bytes old new (Err WriteNoMemory) = new ≡ old

-- a fact of the count that was read, where there were too many bytes
abbrev pub IfTooLong : {T : Type 0} → Result T ReadError → (ℕ → Type 0) → Type 0
IfTooLong (Ok _) P = Unit {0}
IfTooLong (Err Failed) P = Unit {0}
IfTooLong (Err (TooLong count)) P = P count
IfTooLong (Err NoMemory) P = Unit {0}

-- whether a read failed
abbrev pub read_failed : {T : Type 0} → Result T ReadError → Bool
read_failed (Ok _) = false
read_failed (Err Failed) = true
read_failed (Err (TooLong _)) = false
read_failed (Err NoMemory) = false

-- whether a write failed
abbrev pub write_failed : {T : Type 0} → Result T WriteError → Bool
write_failed (Ok _) = false
write_failed (Err WriteFailed) = true
write_failed (Err WriteNoMemory) = false
