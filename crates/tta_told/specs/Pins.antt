-- The ports of a printed module show signals and pins of its circuit.
use Rattle.std.specs.Prelude.{◌≡◌, ℕ, List, [], ◌++◌, Bool, if◌then◌else◌, codes}
use Rattle.tta_arch.specs.Machine.{Machine}
use Rattle.tta_hardware.specs.Pins.{in_ready, out_valid}
use Rattle.tta_hardware.specs.Signals.{Goes, HasHalted, Pc, PutWord}
use Rattle.tta_names.specs.Names.{signal_name, text_of}
use Rattle.tta_rtl.specs.Module.{shown_text}

-- the line that lets a port show a text
abbrev pub assignment : (port text : List ℕ) → List ℕ
assignment port text = codes "assign " ++ (port ++ (codes " = " ++ (text ++ codes ";\n")))

-- what the ports of every machine show: whether it has halted, whether this clock carries an instruction out, and its address
abbrev pub common_pins : Machine → List ℕ
common_pins m =
    assignment (codes "halted") (signal_name m HasHalted)
    ++ (assignment (codes "cycle") (signal_name m Goes) ++ assignment (codes "pc") (signal_name m Pc))

-- what those of the output show: whether there is a word, and the word
abbrev pub output_pins : Machine → List ℕ
output_pins m = assignment (codes "out_valid") (text_of m out_valid) ++ assignment (codes "out_data") (signal_name m PutWord)

-- what that of the input shows: whether a word would be taken
abbrev pub input_pins : Machine → List ℕ
input_pins m = assignment (codes "in_ready") (text_of m in_ready)

-- The ports of the module of a circuit that tells no faults show these: the pins whose words `pins_serve` tells, and signals.
abbrev pub PrintedPins : Type 0
PrintedPins =
    (m : Machine) (gives takes : Bool) → shown_text gives takes
    ≡ common_pins m ++ ((if gives then output_pins m else []) ++ ((if takes then input_pins m else []) ++ codes "endmodule\n"))
