-- The widths of a circuit that leaves operations to modules, the order of its wires, and that its names differ.
use Rattle.std.specs.Prelude.{◌≡◌, ℕ, Bool, true, false, List}
use Rattle.tta_boxed.specs.Cited.{Machine, IsMachine, IsLegalCode, IsPlain, is_ordered, IsClosed, signals_of, are_apart, rank, trap_rank, trap_signal_width, store_width, Shows, Boxes, same_signal}
use Rattle.tta_code.specs.declared.code.Code.{Code as Program}
use Rattle.tta_hardware.specs.Signals.{Signal as Named}
use Rattle.tta_boxed.specs.Boxed.{boxed}
use Rattle.tta_boxed.specs.Theorem.{whole}

-- how wide a signal is
abbrev pub boxed_signal_width : Machine → Named → ℕ
boxed_signal_width m (Boxes (Shows unit op)) = 32
boxed_signal_width m n = trap_signal_width m n

-- the ranks of signals are those of the circuit that makes all operations itself
abbrev pub whole_rank : (faults : Bool) → Named → ℕ
whole_rank true n = trap_rank n
whole_rank false n = rank n

-- Of every machine with legal code, all wires, registers and ports are plain and sized, and each wire reads only what stands before it.
abbrev pub BoxedIsPlain : Type 0
BoxedIsPlain =
    (m : Machine) (leaves : ℕ → Bool) (faults : Bool) (code : Program) (memory : List ℕ) → IsMachine m → IsLegalCode m code
    → IsPlain (boxed_signal_width m) (store_width m) (boxed m leaves (whole faults m code memory))
    × (is_ordered (whole_rank faults) 1 (boxed m leaves (whole faults m code memory)).wires ≡ true)

-- Every expression of it reads only signals that the circuit has.
abbrev pub BoxedIsClosed : Type 0
BoxedIsClosed =
    (m : Machine) (leaves : ℕ → Bool) (faults : Bool) (code : Program) (memory : List ℕ) → IsMachine m
    → IsClosed same_signal (boxed m leaves (whole faults m code memory))

-- No two signals of it have one name.
abbrev pub BoxedNamesDiffer : Type 0
BoxedNamesDiffer =
    (m : Machine) (leaves : ℕ → Bool) (faults : Bool) (code : Program) (memory : List ℕ)
    → are_apart same_signal (signals_of (boxed m leaves (whole faults m code memory))) ≡ true
