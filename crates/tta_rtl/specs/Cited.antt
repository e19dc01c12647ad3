-- What the definitions and lemmas of this crate cite of other crates, passed on from one place. Declares nothing.
pub use Rattle.tta_arch.specs.Effects.{KeptImm, KeptOperand, KeptPort, KeptRa, KeptReg, has_result, or_else, width_of}
pub use Rattle.tta_arch.specs.Fields.{bus_width, numbers, short_width, template_width, word_width}
pub use Rattle.tta_arch.specs.Joins.{has_bit, is_dest_on}
pub use Rattle.tta_arch.specs.Layout.{fields_of, layout_of}
pub use Rattle.tta_arch.specs.Machine.{Machine}
pub use Rattle.tta_arch.specs.Rules.{IsMachine, same_op}
pub use Rattle.tta_arch.specs.declared.ends.Dest.{Dest}
pub use Rattle.tta_arch.specs.declared.layout.BusFields.{BusFields}
pub use Rattle.tta_arch.specs.declared.layout.Layout.{Layout}
pub use Rattle.tta_arch.specs.declared.parts.Op.{Op}
pub use Rattle.tta_arch.specs.declared.parts.Op.TheVariants.{Out, Set, Stf, Stw, Take}
pub use Rattle.tta_arch.specs.declared.parts.Template.{Template}
pub use Rattle.tta_arch.specs.declared.parts.UnitOp.{UnitOp}
pub use Rattle.tta_circuit.specs.Circuit.{Below, Both, Circuit, Const, Equal, Expr, Join, Memory, Plus, Select, Signal, Slice, Wire, WritePort}
pub use Rattle.tta_code.specs.Whole.{data_in}
pub use Rattle.tta_code.specs.declared.code.Code.{Code}
pub use Rattle.tta_code.specs.declared.whole.Datum.{Datum}
pub use Rattle.tta_hardware.specs.Chains.{any_of, first_of}
pub use Rattle.tta_hardware.specs.Hardware.{all_fields, bus_fields, bus_wires, circuit_of, circuit_with, code_words, load_registers, register_names, result_registers, rom, store_port, unit_registers, unit_wires, wire, wire_names, with_bits}
pub use Rattle.tta_hardware.specs.Parts.{above, below_bus, below_payload, buses_width, long_width, shares_from, short_part, with_high}
pub use Rattle.tta_hardware.specs.Registers.{becomes, kept_next, longs, narrowed, register, register_width, restarts}
pub use Rattle.tta_hardware.specs.Signals.{Asks, Controls, Due, Ends, EndsNow, Expression, Fetched, Field, Gives, Goal, GoalNow, Goes, HasBegun, HasHalted, IsDue, IsInside, Keeps, Lands, LongOf, NextPc, Operand, Pc, Port, PutWord, Puts, Raw, Starts, Store, TemplateOf, Trigger, Underway, Word}
pub use Rattle.tta_hardware.specs.Wires.{all_ops, arrivals, begins, buses_to, fresh, hits, is_load, loads, longest, made, nothing, operand_now, ops_of, read_word, result_of, timed, trigger_word}
pub use Rattle.tta_image.specs.Bits.{bits_of}
unfoldable pub use Rattle.tta_image.specs.Bits.{instruction_bits}
pub use Rattle.tta_image.specs.Decoding.{bits_in, field, is_signed, number_of}
pub use Rattle.tta_image.specs.Image.{Image, data_section, header, version_of}
pub use Rattle.tta_image.specs.Narrow.{AreNarrow}
pub use Rattle.tta_image.specs.Reading.{body_in, section_length, word_count}
pub use Rattle.tta_list.specs.Laid.{over}
pub use Rattle.tta_names.specs.Names.{names_of, place_name, signal_name, text_of}
pub use Rattle.tta_op_circuits.specs.Narrow.{brought_word, narrow_wires}
unfoldable pub use Rattle.tta_op_circuits.specs.Narrow.{narrow_cut}
pub use Rattle.tta_op_circuits.specs.Operations.{arith_circuit, compare_circuit, divide_circuit, logic_circuit, shift_circuit}
pub use Rattle.tta_op_circuits.specs.Worked.{First, Inner, Makes, Port as OpPort, Second, Worked}
pub use Rattle.tta_ops.specs.Arithmetic.{arith, divide}
pub use Rattle.tta_ops.specs.Bits.{logic, shift}
pub use Rattle.tta_ops.specs.Comparison.{compare}
pub use Rattle.tta_ops.specs.Operation.{Operation}
pub use Rattle.tta_ops.specs.Set.{stated}
pub use Rattle.tta_ops.specs.Units.{Units}
pub use Rattle.tta_verilog.specs.Circuits.{bits_text, memory_text, parts_text, register_text, store_text, wire_text}
unfoldable pub use Rattle.tta_verilog.specs.Circuits.{array_start, array_zeros, case_end, case_line, case_start, first_line, range, write_line}
unfoldable pub use Rattle.tta_verilog.specs.Expressions.{between, choice, constant, joined, part, reading}
pub use Rattle.tta_verilog.specs.Expressions.{Names, expression}
