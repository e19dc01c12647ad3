-- What the definitions and lemmas of this crate cite of other crates, passed on from one place. Declares nothing.
pub use Rattle.tta_arch.specs.Effects.{Brought, Calls, Control, Effect, Halts, Imm, Jumps, KeptImm, KeptOperand, KeptPort, KeptRa, KeptReg, Kind, Place, Reads, Reg, Start, Target, Written, bring, control_of, first_some, guard_word, has_result, has_unset, has_unset_guard, is_active, is_port, is_register, kept, lacks_operand, long_effect, moved, op_at, operand_of, operand_word, or_else, passes, put_out, result_word, start_of, store_data, store_frame, stores, take_in, takes, takes_in, target_of, write_of}
pub use Rattle.tta_arch.specs.Fields.{all_sources, bus_width, dest_code, dest_width, dests_on, guard_code, guard_width, guards_on, numbers, payload_width, same_dest, same_source, short_width, source_code, sources_on, taken_width, template_width, word_width}
unfoldable pub use Rattle.tta_arch.specs.Fields.{width_for}
pub use Rattle.tta_arch.specs.Joins.{has_bit, has_guard, has_socket, is_dest_on, is_same_guard, is_source_on, joins, within}
pub use Rattle.tta_arch.specs.Layout.{has_source_socket}
pub use Rattle.tta_arch.specs.Legal.{all_slots}
pub use Rattle.tta_arch.specs.Machine.{Machine}
pub use Rattle.tta_arch.specs.Rules.{IsMachine, are_different, fits_kind, has_one_owner, is_data_op, is_file, is_frame_op, is_guard, is_stream_op, is_unit, is_unit_op, same_op}
pub use Rattle.tta_arch.specs.declared.ends.Dest.{Dest}
pub use Rattle.tta_arch.specs.declared.ends.GuardRef.{GuardRef}
pub use Rattle.tta_arch.specs.declared.ends.Source.{Source}
pub use Rattle.tta_arch.specs.declared.parts.File.{File}
pub use Rattle.tta_arch.specs.declared.parts.Guard.{Guard}
pub use Rattle.tta_arch.specs.declared.parts.ImmUnit.{ImmUnit}
pub use Rattle.tta_arch.specs.declared.parts.Op.{Op}
pub use Rattle.tta_arch.specs.declared.parts.Op.TheVariants.{Ldf, Ldw, Out, Set, Stf, Stw, Take}
pub use Rattle.tta_arch.specs.declared.parts.Template.{Template}
pub use Rattle.tta_arch.specs.declared.parts.UnitOp.{UnitOp}
pub use Rattle.tta_circuit.specs.Circuit.{Apply, Below, Both, Circuit, Const, Either, Equal, Expr, Join, Memory, Not, Plus, Read, Register, Select, Signal, Slice, Wire, WritePort}
pub use Rattle.tta_circuit.specs.Closed.{IsClosed, PortReads, has_signal, reads_only, signals_of}
pub use Rattle.tta_circuit.specs.Laws.{AreMadeBy, IsWithin, Solves, TellsApart}
pub use Rattle.tta_circuit.specs.Meaning.{Held, bit, clocked, given, held_from, is_input, is_set, powered, registered, settled, value}
pub use Rattle.tta_circuit.specs.Order.{is_ordered, reads_below}
pub use Rattle.tta_circuit.specs.Plain.{IsPlain, IsWritten, IsWrittenPort, IsWrittenRegister, IsWrittenWire, is_plain}
pub use Rattle.tta_circuit.specs.Widths.{is_sized}
pub use Rattle.tta_code.specs.Cycle.{Fault, Halted, Outcome, Pending, Result', Running, State, Waiting, acts, carry_out, clashes, cyc, effect_of, effects_of, fault_of, first_fault, jumps_in_delay, lands, later, long_effects, moves_of, or_fault, or_wait, pending_after, port, read_source, reads_unset_port, reads_unset_register, start, takes_effect, waits}
unfoldable pub use Rattle.tta_code.specs.Cycle.{next}
pub use Rattle.tta_code.specs.Legal.{IsLegalCode, ends_of, is_long}
unfoldable pub use Rattle.tta_code.specs.Legal.{is_legal}
pub use Rattle.tta_code.specs.Results.{due_at, is_due, latest, word_due}
pub use Rattle.tta_code.specs.declared.code.Instruction.{Instruction}
pub use Rattle.tta_code.specs.declared.code.Long.{Long}
pub use Rattle.tta_code.specs.declared.code.Move.{Move}
pub use Rattle.tta_image.specs.Bits.{bits_of, long_bits, slot_bits, slots_bits, source_bits, template_code}
unfoldable pub use Rattle.tta_image.specs.Bits.{instruction_bits}
pub use Rattle.tta_image.specs.Decoding.{bits_in, field, is_signed, number_of, short_word, taken_bits}
pub use Rattle.tta_image.specs.Fields.{buses_of}
pub use Rattle.tta_image.specs.Image.{Image, data_section, header, version_of}
pub use Rattle.tta_image.specs.Reading.{body_in, word_count}
pub use Rattle.tta_image.specs.Sink.{bit_value}
pub use Rattle.tta_list.specs.Input.{left}
pub use Rattle.tta_list.specs.Iterate.{iterate}
pub use Rattle.tta_ops.specs.Units.{Units}
