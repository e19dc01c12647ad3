-- Files in memory, some of whose calls are to fail.
use Rattle.std.specs.Prelude.{◌≡◌, ℕ, ◌/◌, ◌==◌, nat_le, if◌then◌else◌, Bool, true, false, List, length, take, Option, Some, None, Result, Ok, Err, Vec, refl}
use Rattle.std.specs.List.{list_any}
use Rattle.std.specs.Coded.{Coded, code_by, coded×, coded_list, coded_option, coded_ℕ}
use Rattle.std.specs.declared.alloc.Global.{Global}
use Rattle.tta_ports.specs.declared.fault.Fault.{Fault}
use Rattle.tta_ports.specs.declared.fault.Fault.TheVariants.{Read, Write}
use Rattle.tta_ports.specs.declared.error.ReadError.{ReadError}
use Rattle.tta_ports.specs.declared.error.ReadError.TheVariants.{Failed, TooLong, NoMemory}
use Rattle.tta_ports.specs.declared.error.WriteError.{WriteError}
use Rattle.tta_ports.specs.declared.error.WriteError.TheVariants.{Failed as WriteFailed, NoMemory as WriteNoMemory}
use Rattle.tta_ports.specs.Store.{Store, file_at, with_file, no_files, store_code}
use Rattle.tta_ports.specs.Faults.{next_count}

-- the files, the numbers of the calls that are to fail, how many calls and how many faults there were,
-- and the latest fault
pub record Disk : Type 0 where
  pub store : Store
  pub failing : List ℕ
  pub calls : ℕ
  pub faults : ℕ
  pub latest : Option Fault

-- no files and no call yet
abbrev pub new_disk : List ℕ → Disk
new_disk failing =
    record { store = no_files; failing = failing; calls = 0; faults = 0; latest = None }

-- whether the next call, whose number is one more than those before, is to fail
abbrev pub fails_next : Disk → Bool
fails_next d = list_any (λ n. n == next_count d.calls) d.failing

-- one more call
abbrev pub called : Disk → Disk
called d = record d { calls = next_count d.calls }

-- one more call, which failed
abbrev pub faulted : Fault → Disk → Disk
faulted fault d = record d {
  calls = next_count d.calls;
  faults = next_count d.faults;
  latest = Some fault;
}

-- the name holds these bytes
abbrev pub holding : List ℕ → List ℕ → Disk → Disk
holding name bytes d = record d { store = with_file d.store name bytes }

-- the first half, rounded down
abbrev pub first_half : List ℕ → List ℕ
first_half bytes = take (length bytes / 2) bytes

-- what reading a name's bytes gives: no name is a fault, and more bytes than the limit are too many
abbrev pub up_to : ℕ → Option (List ℕ) → Result (List ℕ) ReadError
up_to limit None = Err Failed
up_to limit (Some bytes) =
    if nat_le (length bytes) limit then Ok bytes else Err (TooLong (length bytes))

-- what a read gives, but for lack of memory
abbrev pub read_answer : Disk → List ℕ → ℕ → Result (List ℕ) ReadError
read_answer d name limit = if fails_next d then Err Failed else up_to limit (file_at d.store name)

-- a read answers this, but for lack of memory
abbrev pub ReadAnswers : Result (List ℕ) ReadError → Result (Vec ℕ Global) ReadError → Type 0
ReadAnswers answer (Ok v) = answer ≡ Ok v.items
ReadAnswers answer (Err Failed) = answer ≡ Err Failed
ReadAnswers answer (Err (TooLong count)) = answer ≡ Err (TooLong count)
ReadAnswers answer (Err NoMemory) = Unit {0}

-- after a read: a call more, and where it failed a fault more
abbrev pub after_read : List ℕ → Bool → Disk → Disk
after_read name true d = faulted (Read name) d
after_read name false d = called d

-- a write fails exactly where it is to, and then the name holds the first half of the bytes
abbrev pub WriteAnswers : {T : Type 0}
    → Disk → Disk → List ℕ → List ℕ → Result T WriteError → Type 0
WriteAnswers old new name bytes (Ok _) =
    (fails_next old ≡ false) × (new ≡ holding name bytes (called old))
WriteAnswers old new name bytes (Err WriteFailed) =
    (fails_next old ≡ true) × (new ≡ holding name (first_half bytes) (faulted (Write name) old))
WriteAnswers old new name bytes (Err WriteNoMemory) = new ≡ called old

-- such files are stored as the tuple of their fields, given how a fault is stored
abbrev pub disk_code : Coded Fault → Coded Disk
disk_code fault =
    code_by (Store × (List ℕ × (ℕ × (ℕ × Option Fault))))
    (coded× store_code (coded× (coded_list coded_ℕ)
    (coded× coded_ℕ (coded× coded_ℕ (coded_option fault)))))
    (λ d. (d.store, (d.failing, (d.calls, (d.faults, d.latest)))))
    (λ t. record {
      store = t.0;
      failing = t.1.0;
      calls = t.1.1.0;
      faults = t.1.1.1.0;
      latest = t.1.1.1.1;
    })
    (λ _. refl)
