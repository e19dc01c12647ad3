-- The text of a machine with its code and data as a module.
use Rattle.std.specs.Prelude.{ℕ, ◌^◌, Bool, true, false, nat_lt, if◌then◌else◌, List, [], ◌++◌, codes, length, replicate}
use Rattle.std.specs.List.{flat_map}
use Rattle.tta_rtl.specs.Cited.{over, Units, Op, Out, Take, Stw, Stf, Machine, same_op, data_in, Circuit, Memory, WritePort, Store, all_ops, circuit_of, store_port, range, register_text, store_text, wire_text, write_line, names_of, text_of}
use Rattle.tta_code.specs.Whole.{Whole}
use Rattle.tta_hardware.specs.Signals.{Signal as Named}
use Rattle.tta_verilog.specs.Circuits.{array_text, function_text}
use Rattle.tta_names.specs.Names.{is_constant}
use Rattle.tta_rtl.specs.declared.rom.Rom.{Rom}
use Rattle.tta_rtl.specs.declared.rom.Rom.TheVariants as rom
use Rattle.tta_rtl.specs.Functions.{functions_text}
use Rattle.tta_rtl.specs.CodeFile.{filed_text}

-- ---- the ports

-- whether some unit offers an operation
abbrev pub offers : Machine → Op → Bool
offers m op = nat_lt 0 (length (all_ops m (same_op op)))

-- the first line of a module of some name, which names the ports: those of the output where words can be put out, and those of the
-- input where words can be taken
abbrev pub head_text : (name : List ℕ) → (gives takes : Bool) → List ℕ
head_text name gives takes =
    codes "module " ++ (name ++ (codes " (clk, reset, halted, cycle, pc"
    ++ ((if gives then codes ", out_valid, out_data, out_ready" else [])
    ++ ((if takes then codes ", in_valid, in_data, in_ready" else []) ++ codes ");\n"))))

-- the ports of every machine
abbrev pub common_ports : Machine → List ℕ
common_ports m =
    codes "input clk;\ninput [0:0] reset;\noutput [0:0] halted;\noutput [0:0] cycle;\noutput "
    ++ (range m.control.address ++ codes "pc;\n")

-- the ports of the output, or what stands for the input of the circuit that belongs to it
abbrev pub out_ports : (gives : Bool) → List ℕ
out_ports gives =
    if gives
    then codes "output [0:0] out_valid;\noutput [31:0] out_data;\ninput [0:0] out_ready;\n"
    else codes "wire [0:0] out_ready = 1'd0;\n"

-- the ports of the input, or what stands for the inputs of the circuit that belong to it
abbrev pub in_ports : (takes : Bool) → List ℕ
in_ports takes =
    if takes
    then codes "input [0:0] in_valid;\ninput [31:0] in_data;\noutput [0:0] in_ready;\n"
    else codes "wire [0:0] in_valid = 1'd0;\nwire [31:0] in_data = 32'd0;\n"

-- what the ports show
abbrev pub shown_text : (gives takes : Bool) → List ℕ
shown_text gives takes =
    codes "assign halted = n_halted;\nassign cycle = n_goes;\nassign pc = n_pc;\n"
    ++ ((if gives then codes "assign out_valid = (!(reset))&&((!(n_halted))&&(n_gives));\nassign out_data = n_put;\n" else [])
    ++ ((if takes then codes "assign in_ready = (!(reset))&&((!(n_halted))&&(n_asks));\n" else []) ++ codes "endmodule\n"))

-- ---- the module

-- what stands before the parts of the circuit
abbrev pub before_parts : Machine → (name : List ℕ) → (gives takes : Bool) → List ℕ
before_parts m name gives takes =
    head_text name gives takes ++ (common_ports m ++ (out_ports gives ++ (in_ports takes ++ codes "integer k;\n")))

-- the memory of the code, with its words in the text or in a file
abbrev pub code_text : Machine → Rom → Memory Named Store → List ℕ
code_text m rom.Text x = function_text (names_of m) x
code_text m rom.File x = filed_text x.width (2 ^ m.control.address)

-- a memory of a circuit
abbrev pub memory_of : Machine → Rom → Memory Named Store → List ℕ
memory_of m r x = if is_constant x.name then code_text m r x else array_text (names_of m) x

-- the memories of a circuit
abbrev pub memories_text : Machine → Rom → Circuit Named Store → List ℕ
memories_text m r c = flat_map (memory_of m r) c.memories

-- where a memory is written
abbrev pub store_line : Machine → (name : List ℕ) → WritePort Named Store → List ℕ
store_line m name p = write_line name (text_of m p.enable) (text_of m p.address) (text_of m p.word)

-- where the two spaces are written
abbrev pub stores_text : Machine → List ℕ
stores_text m =
    store_line m (codes "data") (store_port m m.data_words (same_op Stw))
    ++ store_line m (codes "frame") (store_port m m.frame_words (same_op Stf))

-- The parts of a circuit: the registers are declared, then come the memories, functions of the operations that the machine offers, the
-- wires in their order, what each register takes at a clock, and where memories are written.
abbrev pub core_text : Units → Machine → Rom → Circuit Named Store → List ℕ
core_text u m r c =
    flat_map (register_text (names_of m) true) c.registers ++ (memories_text m r c ++ (functions_text u m
    ++ (flat_map (wire_text (names_of m)) c.wires
    ++ (flat_map (register_text (names_of m) false) c.registers ++ flat_map (store_text (names_of m)) c.memories))))

-- a circuit of a machine as a module of this name with these ports, with the words of code in the text or in a file
abbrev pub module_with : Units → Machine → Rom → (name : List ℕ) → (gives takes : Bool) → Circuit Named Store → List ℕ
module_with u m r name gives takes c = before_parts m name gives takes ++ (core_text u m r c ++ shown_text gives takes)

-- the same with the words in the text
abbrev pub module_of : Units → Machine → (name : List ℕ) → (gives takes : Bool) → Circuit Named Store → List ℕ
module_of u m name gives takes c = module_with u m rom.Text name gives takes c

-- a circuit of a machine as a module alone, which has the ports that the machine's operations ask for
abbrev pub module_text : Units → Machine → Rom → Circuit Named Store → List ℕ
module_text u m r c = module_with u m r (codes "tta_core") (offers m Out) (offers m Take) c

-- the words that the data space begins with
abbrev pub first_words : Machine → Whole → List ℕ
first_words m whole = over (data_in whole) (replicate m.data_words 0)

-- the circuit of a machine with code and data as a module
abbrev pub rtl_of : Units → Machine → Rom → Whole → List ℕ
rtl_of u m r whole = module_text u m r (circuit_of m whole.code (first_words m whole))
