-- The parts of the text in the order in which they are written.
use Rattle.std.specs.Prelude.{ℕ, Bool, true, false, List, ◌++◌}
use Rattle.std.specs.List.{flat_map}
use Rattle.tta_boxed_rtl.specs.Cited.{Units, Machine, Circuit, circuit_with, wire_names, Store, memories_text, wires_text, Rom, trap_with, trap_wires, trap_wires_text}
use Rattle.tta_hardware.specs.Signals.{Signal as Named}
use Rattle.tta_boxed_rtl.specs.Left.{all_left, functions_text}
use Rattle.tta_boxed_rtl.specs.Texts.{left_lines, plain_lines, telling_lines}
use Rattle.tta_boxed_rtl.specs.Beside.{made_lines}

-- the circuit that makes all operations itself, by the words of its code, of which so many are instructions
abbrev pub circuit_by : (faults : Bool) → Machine → (count : ℕ) → (words memory : List ℕ) → Circuit Named Store
circuit_by true m count words memory = trap_with m count words memory
circuit_by false m count words memory = circuit_with m words memory

-- all registers
abbrev pub registers_lines : Machine → (leaves : ℕ → Bool) → (faults declares : Bool) → List ℕ
registers_lines m leaves faults declares =
    plain_lines m leaves declares
    ++ (telling_lines m faults declares ++ flat_map (left_lines m leaves declares) (all_left m leaves))

-- the memories, the functions, and what modules show
abbrev pub first_parts : Units → Machine → Rom → (leaves : ℕ → Bool) → (words memory : List ℕ) → List ℕ
first_parts u m r leaves words memory =
    memories_text m r (circuit_with m words memory) ++ (functions_text u m leaves ++ made_lines m leaves)

-- all wires
abbrev pub wires_lines : Machine → (faults : Bool) → (count : ℕ) → List ℕ
wires_lines m true count = trap_wires_text m count (trap_wires m)
wires_lines m false count = wires_text m (wire_names m)
