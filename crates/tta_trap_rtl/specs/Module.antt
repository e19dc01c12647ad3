-- The text of a machine with its code and data as a module that tells the first fault.
use Rattle.std.specs.Prelude.{ℕ, Bool, if◌then◌else◌, List, [], ◌++◌, codes}
use Rattle.tta_trap_rtl.specs.Cited.{Machine, Out, Take, Circuit, Whole, Store, text_of, Units, common_ports, core_text, first_words, in_ports, offers, out_ports, Rom, trap_in_ready, trap_out_valid, trap_circuit}
use Rattle.tta_hardware.specs.Signals.{Signal as Named}

-- the first line, which names the ports: those of a module that does not stop at faults, and the number of the fault
abbrev pub head_text : (gives takes : Bool) → List ℕ
head_text gives takes =
    codes "module tta_core (clk, reset, halted, cycle, pc, fault"
    ++ ((if gives then codes ", out_valid, out_data, out_ready" else [])
    ++ ((if takes then codes ", in_valid, in_data, in_ready" else []) ++ codes ");\n"))

-- what stands before the parts of the circuit
abbrev pub before_parts : Machine → (gives takes : Bool) → List ℕ
before_parts m gives takes =
    head_text gives takes ++ (common_ports m ++ (codes "output [6:0] fault;\n"
    ++ (out_ports gives ++ (in_ports takes ++ codes "integer k;\n"))))

-- what the ports of the output show, and those of the input
unfoldable pub output_lines : Machine → List ℕ
output_lines m = codes "assign out_valid = " ++ (text_of m trap_out_valid ++ codes ";\nassign out_data = n_put;\n")

unfoldable pub input_lines : Machine → List ℕ
input_lines m = codes "assign in_ready = " ++ (text_of m trap_in_ready ++ codes ";\n")

-- what the ports show
abbrev pub shown_text : Machine → (gives takes : Bool) → List ℕ
shown_text m gives takes =
    codes "assign halted = n_halted;\nassign cycle = n_goes;\nassign pc = n_pc;\nassign fault = n_fault;\n"
    ++ ((if gives then output_lines m else []) ++ ((if takes then input_lines m else []) ++ codes "endmodule\n"))

-- a circuit of a machine as a module with these ports, with the words of code in the text or in a file
abbrev pub module_with : Units → Machine → Rom → (gives takes : Bool) → Circuit Named Store → List ℕ
module_with u m r gives takes c = before_parts m gives takes ++ (core_text u m r c ++ shown_text m gives takes)

-- The circuit of a machine with code and data that tells the first fault, as a module that has the ports which the machine's operations
-- ask for.
abbrev pub trap_rtl_of : Units → Machine → Rom → Whole → List ℕ
trap_rtl_of u m r whole =
    module_with u m r (offers m Out) (offers m Take) (trap_circuit m whole.code (first_words m whole))
