-- The text of a machine with its code and data as a module that leaves long operations to modules beside it.
use Rattle.std.specs.Prelude.{ℕ, Bool, true, false, List, ◌++◌, codes}
use Rattle.std.specs.List.{flat_map}
use Rattle.tta_boxed_rtl.specs.Cited.{Units, Machine, Out, Take, Circuit, Whole, Store, names_of, memories_text, first_words, offers, Rom, store_text, register_text, wire_text, boxed, circuit_for}
use Rattle.tta_hardware.specs.Signals.{Signal as Named}
use Rattle.tta_rtl.specs.Module as plain
use Rattle.tta_trap_rtl.specs.Module as trap
use Rattle.tta_boxed_rtl.specs.Left.{functions_text, leaves_of}
use Rattle.tta_boxed_rtl.specs.Beside.{dividers_text, made_lines, module_lines}

-- The parts of a circuit: the registers are declared, then come the memories, functions of the operations that the circuit makes
-- itself, what modules show, the wires in their order, the modules, what each register takes at a clock, and where memories are written.
abbrev pub core_text : Units → Machine → Rom → (leaves : ℕ → Bool) → Circuit Named Store → List ℕ
core_text u m r leaves c =
    flat_map (register_text (names_of m) true) c.registers ++ (memories_text m r c ++ (functions_text u m leaves
    ++ (made_lines m leaves ++ (flat_map (wire_text (names_of m)) c.wires ++ (module_lines u m leaves
    ++ (flat_map (register_text (names_of m) false) c.registers ++ flat_map (store_text (names_of m)) c.memories))))))

-- what stands before the parts of the circuit, and what the ports show after them, where it tells faults or does not
abbrev pub before_text : Machine → (faults gives takes : Bool) → List ℕ
before_text m true gives takes = trap.before_parts m gives takes
before_text m false gives takes = plain.before_parts m (codes "tta_core") gives takes

abbrev pub shown_text : Machine → (faults gives takes : Bool) → List ℕ
shown_text m true gives takes = trap.shown_text m gives takes
shown_text m false gives takes = plain.shown_text gives takes

-- a circuit as a module that has the ports which the machine's operations ask for
abbrev pub module_text : Units → Machine → Rom → (faults : Bool) → (leaves : ℕ → Bool) → Circuit Named Store → List ℕ
module_text u m r faults leaves c =
    before_text m faults (offers m Out) (offers m Take)
    ++ (core_text u m r leaves c ++ shown_text m faults (offers m Out) (offers m Take))

-- The circuit of a machine with code and data that leaves long operations to modules, as a module, and the modules that divide.
abbrev pub boxed_rtl_of : Units → Machine → Rom → (faults : Bool) → Whole → List ℕ
boxed_rtl_of u m r faults whole =
    module_text u m r faults (leaves_of u) (boxed m (leaves_of u) (circuit_for faults m whole.code (first_words m whole)))
    ++ dividers_text u m (leaves_of u)
