-- The whole text of a small machine with its code.
use Rattle.std.proofs.Common.{◌≡◌, ℕ, true, false, [], ◌∷◌, List, Some, None, ◌++◌, length, refl, ap, ◌∙◌}
use Rattle.std.specs.Prelude.{codes}
use Rattle.std.specs.List.{flat_map}
use Rattle.std.specs.Fmt.{digits}
use Rattle.tta_arch.specs.declared.ends.Source.{Source}
use Rattle.tta_arch.specs.declared.ends.Dest.{Dest}
use Rattle.tta_arch.specs.declared.ends.Source.TheVariants as source
use Rattle.tta_arch.specs.declared.ends.Dest.TheVariants as dest
use Rattle.tta_arch.specs.Fields.{width_for}
use Rattle.tta_arch.proofs.Samples.{one_bus}
use Rattle.tta_image.specs.Bits.{instruction_bits}
use Rattle.tta_code.specs.Whole.{Whole}
use Rattle.tta_code.specs.declared.code.Instruction.{Instruction}
use Rattle.tta_ops.specs.Units.{Units}
use Rattle.tta_rtl.specs.Cited.{numbers, Circuit, circuit_of, Store, names_of, register_text, store_text, wire_text, array_start, array_zeros, between, case_end, case_line, case_start, choice, constant, first_line, joined, part, range, reading, write_line}
use Rattle.tta_verilog.specs.Circuits.{wire_line}
use Rattle.tta_verilog.specs.Expressions.{negated}
use Rattle.tta_rtl.specs.declared.rom.Rom.TheVariants as rom
use Rattle.tta_hardware.specs.Signals.{Signal as Named}
use Rattle.tta_rtl.specs.Functions.{offered_text}
use Rattle.tta_rtl.specs.Module.{before_parts, first_words, memories_text, rtl_of, shown_text}

-- a move alone
abbrev moved : Source → Dest → Instruction
moved src dst = record { moves = Some (record { guard = None; src = src; dst = dst }) ∷ []; long = None }

-- code that outputs 5 and 7, and halts
abbrev short : Whole
short = record {
  code = record {
    words = moved (source.Value 5) (dest.Trigger 0 0) ∷ moved (source.Value 7) (dest.Trigger 0 0) ∷ moved (source.Value 0) dest.Halt ∷ [];
  };
  init = [];
}

-- its text, line by line
abbrev text : List ℕ
text =
    codes "module tta_core (clk, reset, halted, cycle, pc, out_valid, out_data, out_ready);\ninput clk;\n"
    ++ codes "input [0:0] reset;\noutput [0:0] halted;\noutput [0:0] cycle;\noutput [7:0] pc;\noutput [0:0] out_valid;\n"
    ++ codes "output [31:0] out_data;\ninput [0:0] out_ready;\nwire [0:0] in_valid = 1'd0;\nwire [31:0] in_data = 32'd0;\n"
    ++ codes "integer k;\nreg [31:0] kept_OUT;\nreg [31:0] result_OUT;\nreg [31:0] n_ra;\nreg [7:0] n_pc;\n"
    ++ codes "reg [11:0] n_word;\nreg [0:0] n_halted;\nreg [31:0] n_goal;\nreg [0:0] n_ends;\nfunction [11:0] code;\n"
    ++ codes "input [31:0] at;\ncase (at)\n0: code = 12'b100000101001;\n1: code = 12'b100000111001;\n"
    ++ codes "2: code = 12'b100000000100;\ndefault: code = 12'd0;\nendcase\nendfunction\nreg [31:0] data [0:0];\n"
    ++ codes "initial begin\n`ifndef SYNTHESIS\nfor (k = 0; k < 0; k = k + 1) data[k] = 32'd0;\n`endif\nend\n"
    ++ codes "reg [31:0] frame [0:0];\ninitial begin\n`ifndef SYNTHESIS\nfor (k = 0; k < 0; k = k + 1) frame[k] = 32'd0;\n"
    ++ codes "`endif\nend\nwire [0:0] tag_B = n_word[11+:1];\nwire [7:0] source_B = n_word[3+:8];\n"
    ++ codes "wire [31:0] short_B = {24'd0,n_word[3+:8]};\nwire [2:0] dest_B = (1'd0)?(3'd0):n_word[0+:3];\n"
    ++ codes "wire [31:0] n_long = 32'd0;\nwire [31:0] shown_OUT = result_OUT;\nwire [0:0] acts_B = 1'd1;\n"
    ++ codes "wire [31:0] bus_B = (tag_B)?(short_B):32'd0;\nwire [0:0] start_OUT_0 = ((acts_B)&&((dest_B)==(3'd1)))||(1'd0);\n"
    ++ codes "wire [31:0] trigger_OUT = ((acts_B)&&((dest_B)==(3'd1)))?(bus_B):32'd0;\nwire [31:0] operand_OUT = kept_OUT;\n"
    ++ codes "wire [0:0] n_controls = (((acts_B)&&((dest_B)==(3'd2)))||(1'd0))||((((acts_B)&&((dest_B)==(3'd3)))||(1'd0))||((("
    ++ codes "acts_B)&&((dest_B)==(3'd4)))||(1'd0)));\n"
    ++ codes "wire [31:0] n_goal_now = ((acts_B)&&((dest_B)==(3'd2)))?(bus_B):((acts_B)&&((dest_B)==(3'd3)))?(bus_B):n_goal;\n"
    ++ codes "wire [0:0] n_ends_now = (n_controls)?(((acts_B)&&((dest_B)==(3'd4)))||(1'd0)):n_ends;\n"
    ++ codes "wire [0:0] n_lands = n_controls;\nwire [0:0] n_asks = 1'd0;\nwire [0:0] n_gives = (start_OUT_0)||(1'd0);\n"
    ++ codes "wire [0:0] n_goes = (!(reset))&&((!(n_halted))&&(((!(n_asks))||(in_valid))&&((!(n_gives))||(out_ready))));\n"
    ++ codes "wire [7:0] n_next_pc = (reset)?(8'd0):((n_lands)&&(!(n_ends_now)))?(n_goal_now[0+:8]):(n_pc)+(8'd1);\n"
    ++ codes "wire [0:0] n_puts = (n_goes)&&(n_gives);\nwire [31:0] n_put = (start_OUT_0)?(trigger_OUT):32'd0;\n"
    ++ codes "always @(posedge clk) if (n_goes) kept_OUT <= operand_OUT;\n"
    ++ codes "always @(posedge clk) if (n_goes) result_OUT <= (1'd0)?(32'd0):(1'd0)?(32'd0):shown_OUT;\n"
    ++ codes "always @(posedge clk) if (n_goes) n_ra <= (((acts_B)&&((dest_B)==(3'd3)))||(1'd0))?(({24'd0,n_pc})+(32'd1)):n_ra"
    ++ codes ";\nalways @(posedge clk) if ((reset)||(n_goes)) n_pc <= n_next_pc;\n"
    ++ codes "always @(posedge clk) if ((reset)||(n_goes)) n_word <= code(n_next_pc);\n"
    ++ codes "always @(posedge clk) if ((reset)||(n_goes)) n_halted <= (reset)?(1'd0):(n_lands)&&(n_ends_now);\n"
    ++ codes "always @(posedge clk) if (n_goes) n_goal <= n_goal_now;\n"
    ++ codes "always @(posedge clk) if (n_goes) n_ends <= n_ends_now;\n"
    ++ codes "always @(posedge clk) if ((n_goes)&&((1'd0)&&((32'd0)<(32'd0)))) data[32'd0] <= 32'd0;\n"
    ++ codes "always @(posedge clk) if ((n_goes)&&((1'd0)&&((32'd0)<(32'd0)))) frame[32'd0] <= 32'd0;\n"
    ++ codes "assign halted = n_halted;\nassign cycle = n_goes;\nassign pc = n_pc;\n"
    ++ codes "assign out_valid = (!(reset))&&((!(n_halted))&&(n_gives));\nassign out_data = n_put;\nendmodule\n"

-- its circuit, and the text with these functions of operations
abbrev circuit : Circuit Named Store
circuit = circuit_of one_bus short.code (first_words one_bus short)

abbrev with_functions : (functions : List ℕ) → List ℕ
with_functions functions =
    before_parts one_bus (codes "tta_core") true false
    ++ ((flat_map (register_text (names_of one_bus) true) circuit.registers ++ (memories_text one_bus rom.Text circuit
    ++ (functions ++ (flat_map (wire_text (names_of one_bus)) circuit.wires
    ++ (flat_map (register_text (names_of one_bus) false) circuit.registers ++ flat_map (store_text (names_of one_bus)) circuit.memories)))))
    ++ shown_text true false)

-- it has no function of an operation
without : with_functions [] ≡ text
unfolding digits instruction_bits width_for range constant part between negated choice joined reading wire_line case_start case_line case_end first_line array_zeros array_start write_line
without = refl

short-text : (u : Units) → u.names ≡ [] → rtl_of u one_bus rom.Text short ≡ text
short-text u none =
    ap (λ (ns : List (List ℕ)). with_functions (flat_map (offered_text u one_bus) (numbers (length ns)))) none ∙ without
