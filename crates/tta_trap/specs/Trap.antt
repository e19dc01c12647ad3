-- A machine with its code as a circuit that tells the first fault, and stops there.
use Rattle.std.specs.Prelude.{ℕ, List, [], ◌∷◌, ◌++◌, length, map}
use Rattle.std.specs.List.{flat_map, enumerate_from}
use Rattle.tta_trap.specs.Cited.{Const, Signal, Both, Equal, Wire, Circuit, Machine, numbers, Store, Controls, GoalNow, EndsNow, Lands, Asks, Gives, Goes, NextPc, Puts, PutWord, FaultNow, Watches, Expression, made_of, first_wires, bus_wires, unit_wires, wire_width, register, register_names, code_words, circuit_with}
use Rattle.tta_code.specs.declared.code.Code.{Code as Program}
use Rattle.tta_hardware.specs.Signals.{Signal as Named}
use Rattle.tta_trap.specs.Watches.{watch_made, watch_wires}
use Rattle.tta_trap.specs.Memory.{watch_register, watch_registers}

-- What a wire is made of, with code of so many instructions. A clock carries the instruction out only where it meets no fault.
abbrev pub trap_made : Machine → (count : ℕ) → Named → Expression
trap_made m count (Watches w) = watch_made m count w
trap_made m count Goes = Both (Equal (Signal (Watches FaultNow)) (Const 7 0)) (made_of m Goes)
trap_made m count n = made_of m n

-- how wide a wire is: the number of a fault has 7 bits
abbrev pub trap_width : Machine → Named → ℕ
trap_width m (Watches FaultNow) = 7
trap_width m n = wire_width m n

-- a wire
abbrev pub trap_wire : Machine → (count : ℕ) → Named → Wire Named Store
trap_wire m count n = record { name = n; width = trap_width m n; word = trap_made m count n }

-- the wires before those that tell faults, and those after them
abbrev pub early_wires : Machine → List Named
early_wires m =
    first_wires m ++ flat_map bus_wires (numbers (length m.buses)) ++ flat_map unit_wires (enumerate_from 0 m.units)
    ++ Controls ∷ GoalNow ∷ EndsNow ∷ Lands ∷ Asks ∷ Gives ∷ []

abbrev pub late_wires : List Named
late_wires = Goes ∷ NextPc ∷ Puts ∷ PutWord ∷ []

-- all wires, in an order in which each reads only registers, inputs and wires before it
abbrev pub trap_wires : Machine → List Named
trap_wires m = early_wires m ++ watch_wires m ++ late_wires

-- A machine as such a circuit, whose memory of code has these words, of which so many are instructions, and whose data space begins
-- with these.
abbrev pub trap_with : Machine → (count : ℕ) → (words memory : List ℕ) → Circuit Named Store
trap_with m count words memory =
    let c = circuit_with m words memory in
    record c {
      wires = map (trap_wire m count) (trap_wires m);
      registers = map (register m) (register_names m) ++ map (watch_register m) (watch_registers m);
      outputs = Watches FaultNow ∷ c.outputs;
    }

-- a machine with code as such a circuit, whose data space begins with these words
abbrev pub trap_circuit : Machine → Program → (memory : List ℕ) → Circuit Named Store
trap_circuit m code memory = trap_with m (length code.words) (code_words m code) memory
