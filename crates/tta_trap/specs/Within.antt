-- The words of a circuit that tells the first fault stay within their widths.
use Rattle.std.specs.Prelude.{ℕ, ◌<◌, ◌^◌, List}
use Rattle.std.specs.List.{AllByRecursion}
use Rattle.tta_trap.specs.Cited.{Units, Machine, IsMachine, IsLegalCode, IsWithin, AreInputs, held_at, signals_at, store_width}
use Rattle.tta_code.specs.declared.code.Code.{Code as Program}
use Rattle.tta_hardware.specs.Signals.{Signal as Named}
use Rattle.tta_trap.specs.Trap.{trap_circuit}
use Rattle.tta_trap.specs.Sized.{trap_signal_width}

-- The words of all signals and memories are below what their widths allow, after every number of clocks and for every sequence of inputs
-- that are within theirs, where the words of the data space are words, and those that the registers have when the power comes are no
-- wider than the registers.
abbrev pub TrapWordsStay : Type 0
TrapWordsStay =
    (u : Units) (m : Machine) (code : Program) (memory : List ℕ) (powers : Named → ℕ) (inputs : ℕ → Named → ℕ)
    → IsMachine m → IsLegalCode m code → AllByRecursion (λ w. w < 2 ^ 32) memory
    → ((n : Named) → powers n < 2 ^ trap_signal_width m n) → ((t : ℕ) → AreInputs (inputs t)) → (t : ℕ)
    → IsWithin (trap_signal_width m) (store_width m) (held_at u (trap_circuit m code memory) powers inputs t)
    × ((n : Named) → signals_at u (trap_circuit m code memory) powers inputs t n < 2 ^ trap_signal_width m n)
