-- What is read from a reader and written to a writer whose bytes are known.
use Rattle.std.specs.Prelude.{◌≡◌, ◌≤◌, ◌<◌, ℕ, List, length, Option, IfSome, Result, Ok, Err, Vec}
use Rattle.std.specs.declared.alloc.Global.{Global}
use Rattle.tta_ports.specs.declared.error.ReadError.{ReadError}
use Rattle.tta_ports.specs.declared.error.ReadError.TheVariants.{Failed, TooLong, NoMemory}

-- all the bytes that the reader has, within the limit, or more of them than that
abbrev pub ReadsUpTo : Option (List ℕ) → ℕ → Result (Vec ℕ Global) ReadError → Type 0
ReadsUpTo known limit (Ok v) = (length v.items ≤ limit) × IfSome known (λ bytes. bytes ≡ v.items)
ReadsUpTo known limit (Err Failed) = Unit {0}
ReadsUpTo known limit (Err (TooLong count)) =
    (limit < count) × IfSome known (λ bytes. count ≤ length bytes)
ReadsUpTo known limit (Err NoMemory) = Unit {0}
