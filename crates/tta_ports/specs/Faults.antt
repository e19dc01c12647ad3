-- How a count of faults shows that a call failed.
use Rattle.std.specs.Prelude.{◌≡◌, ◌<◌, ◌⊎◌, ℕ, ◌+◌, ◌-◌, ◌^◌, min, Bool, true, false, Option, Some}
use Rattle.tta_ports.specs.declared.fault.Fault.{Fault}

-- the count rose, or stands at the last value of its counter
abbrev pub Rose : ℕ → ℕ → Type 0
Rose old new = (old < new) ⊎ (new ≡ 2 ^ 64 - 1)

-- a call that failed has raised the count, and any other has left it
abbrev pub CountsFault : Bool → ℕ → ℕ → Type 0
CountsFault true old new = Rose old new
CountsFault false old new = new ≡ old

-- a call that failed is the latest fault, and after any other the latest is what it was
abbrev pub TellsFault : Bool → Fault → Option Fault → Option Fault → Type 0
TellsFault true fault old new = new ≡ Some fault
TellsFault false fault old new = new ≡ old

-- one more, up to the last value of a 64-bit counter
abbrev pub next_count : ℕ → ℕ
next_count n = min (n + 1) (2 ^ 64 - 1)
