-- The text of the registers of a circuit that leaves operations to modules.
use Rattle.std.specs.Prelude.{ℕ, ◌-◌, ◌==◌, ◌&&◌, Bool, true, false, if◌then◌else◌, List, [], ◌++◌}
use Rattle.std.specs.List.{flat_map, enumerate_from, range_with_len}
use Rattle.tta_boxed_rtl.specs.Cited.{KeptOperand, KeptPort, has_result, UnitOp, Machine, Signal, longest, Due, Expression, IsFrom, Keeps, Starts, register, box_name, place_name, signal_name, text_of, fixed, registers_of_file, registers_of_imm, underways, choice_start, due_text, load_text, register_line, register_of, registers_text, boxed_register, from_register, kept_result, watch_registers, watches_text}
use Rattle.tta_arch.specs.declared.parts.Unit.{Unit as OpUnit}

-- what the result port of a unit becomes, and the word of a result that is due in so many cycles
abbrev pub port_next : Machine → (leaves : ℕ → Bool) → (unit : ℕ) → Expression
port_next m leaves unit = (boxed_register m leaves (register m (Keeps (KeptPort unit)))).next

abbrev pub due_next : Machine → (leaves : ℕ → Bool) → (unit delay : ℕ) → Expression
due_next m leaves unit delay = (boxed_register m leaves (register m (Due unit delay))).next

-- whether a result that is due is an operation's, at the next clock
abbrev pub from_becomes : Machine → (leaves : ℕ → Bool) → (unit op latency delay : ℕ) → Expression
from_becomes m leaves unit op latency delay = (from_register m leaves unit op latency delay).next

-- the word of an operation that shows its result after so many cycles, after the test whether it starts; nothing for any other
unfoldable pub kept_choice : Machine → (leaves : ℕ → Bool) → (unit latency : ℕ) → ℕ × UnitOp → List ℕ
kept_choice m leaves unit latency o =
    if has_result o.1.op && o.1.latency == latency
    then choice_start (text_of m (Signal (Starts unit o.0))) (text_of m (kept_result m leaves unit o.1)) else []

-- the lines of these registers
unfoldable pub port_line : Machine → (leaves : ℕ → Bool) → (declares : Bool) → (unit : ℕ) → List ℕ
port_line m leaves declares unit = register_line declares 32 false (place_name m (KeptPort unit)) (text_of m (port_next m leaves unit))

unfoldable pub due_line : Machine → (leaves : ℕ → Bool) → (declares : Bool) → (unit delay : ℕ) → List ℕ
due_line m leaves declares unit delay =
    register_line declares 32 false (signal_name m (Due unit delay)) (text_of m (due_next m leaves unit delay))

unfoldable pub from_line : Machine → (leaves : ℕ → Bool) → (declares : Bool) → (unit op latency delay : ℕ) → List ℕ
from_line m leaves declares unit op latency delay =
    register_line declares 1 true (box_name m (IsFrom unit op delay)) (text_of m (from_becomes m leaves unit op latency delay))

-- the lines of the registers of a unit: its ports, the results that are due in it, and its loads
unfoldable pub unit_lines : Machine → (leaves : ℕ → Bool) → (declares : Bool) → ℕ × OpUnit → List ℕ
unit_lines m leaves declares u =
    let delays = range_with_len 1 (longest m u.0 - 1) in
    register_of m declares (Keeps (KeptOperand u.0)) ++ (port_line m leaves declares u.0
    ++ (flat_map (due_text m declares u.0) delays ++ (flat_map (due_line m leaves declares u.0) delays
    ++ flat_map (load_text m declares u.0) (enumerate_from 0 u.1.ops))))

-- those of an operation that is left, with its unit and its number
unfoldable pub left_lines : Machine → (leaves : ℕ → Bool) → (declares : Bool) → ℕ × (ℕ × UnitOp) → List ℕ
left_lines m leaves declares l =
    flat_map (from_line m leaves declares l.0 l.1.0 l.1.1.latency) (range_with_len 1 (l.1.1.latency - 1))

-- the lines of all registers of a circuit that tells no faults
abbrev pub plain_lines : Machine → (leaves : ℕ → Bool) → (declares : Bool) → List ℕ
plain_lines m leaves declares =
    registers_text m declares (flat_map (λ f. registers_of_file f.0 f.1.size) (enumerate_from 0 m.files)
    ++ flat_map (λ i. registers_of_imm i.0 i.1.size) (enumerate_from 0 m.imms))
    ++ (flat_map (unit_lines m leaves declares) (enumerate_from 0 m.units) ++ registers_text m declares (underways m ++ fixed))

-- those that only a circuit has that tells faults
abbrev pub telling_lines : Machine → (faults declares : Bool) → List ℕ
telling_lines m faults declares = if faults then watches_text m declares (watch_registers m) else []
