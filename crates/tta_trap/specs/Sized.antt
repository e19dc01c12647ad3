-- The widths of a circuit that tells the first fault, the order of its wires, and that its names differ.
use Rattle.std.specs.Prelude.{◌≡◌, ℕ, true, List}
use Rattle.tta_trap.specs.Cited.{Machine, IsMachine, IsPlain, is_ordered, IsClosed, signals_of, are_apart, rank, signal_width, store_width, Goes, NextPc, Puts, PutWord, FaultNow, Watches, LacksRegister, LacksPort, LacksOperand, Clashes, HasWord, IsPast, same_signal}
use Rattle.tta_code.specs.declared.code.Code.{Code as Program}
use Rattle.tta_code.specs.Legal.{IsLegalCode}
use Rattle.tta_hardware.specs.Signals.{Signal as Named}
use Rattle.tta_trap.specs.Trap.{trap_circuit}

-- how wide a signal is
abbrev pub trap_signal_width : Machine → Named → ℕ
trap_signal_width m (Watches FaultNow) = 7
trap_signal_width m n = signal_width m n

-- the ranks of signals: what tells faults reads buses, units and control, and what goes on reads it
abbrev pub trap_rank : Named → ℕ
trap_rank (Watches (HasWord p)) = 0
trap_rank (Watches IsPast) = 0
trap_rank (Watches (LacksRegister bus)) = 5
trap_rank (Watches (LacksPort bus)) = 5
trap_rank (Watches (LacksOperand unit)) = 5
trap_rank (Watches (Clashes unit)) = 5
trap_rank (Watches FaultNow) = 6
trap_rank Goes = 7
trap_rank NextPc = 7
trap_rank Puts = 8
trap_rank PutWord = 8
trap_rank n = rank n

-- Of every machine with legal code, all wires, registers and ports are plain and sized, and each wire reads only what stands before it.
abbrev pub TrapIsPlain : Type 0
TrapIsPlain =
    (m : Machine) (code : Program) (memory : List ℕ) → IsMachine m → IsLegalCode m code
    → IsPlain (trap_signal_width m) (store_width m) (trap_circuit m code memory)
    × (is_ordered trap_rank 1 (trap_circuit m code memory).wires ≡ true)

-- Every expression of it reads only signals that the circuit has.
abbrev pub TrapIsClosed : Type 0
TrapIsClosed = (m : Machine) (code : Program) (memory : List ℕ) → IsMachine m → IsClosed same_signal (trap_circuit m code memory)

-- No two signals of it have one name.
abbrev pub TrapNamesDiffer : Type 0
TrapNamesDiffer = (m : Machine) (code : Program) (memory : List ℕ) → are_apart same_signal (signals_of (trap_circuit m code memory)) ≡ true
