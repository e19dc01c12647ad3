-- What the definitions and lemmas of this crate cite of other crates, passed on from one place. Declares nothing.
pub use Rattle.tta_arch.specs.Effects.{Brought, Calls, Effect, Halts, Imm, Jumps, KeptImm, KeptOperand, KeptPort, KeptRa, KeptReg, Kind, Place, Reads, Start, Written, bring, control_of, first_some, guard_word, has_result, has_unset, has_unset_guard, is_active, is_port, is_register, kept, lacks_operand, long_effect, moved, op_at, operand_word, or_else, passes, put_out, result_word, start_of, store_data, store_frame, take_in, takes, takes_in, target_of, width_of, write_of}
pub use Rattle.tta_arch.specs.Joins.{dest_socket, has_guard, has_socket, is_dest_on, is_same, is_same_guard, is_source_on, joins, source_socket, within}
pub use Rattle.tta_arch.specs.Legal.{all_slots, are_apart, same_place}
pub use Rattle.tta_arch.specs.Machine.{Machine}
pub use Rattle.tta_arch.specs.Rules.{IsMachine, are_different, fits_kind, is_file, is_guard, is_imm, is_stream_op, is_template, is_unit, is_unit_op, same_op}
pub use Rattle.tta_arch.specs.declared.ends.Dest.{Dest}
pub use Rattle.tta_arch.specs.declared.ends.GuardRef.{GuardRef}
pub use Rattle.tta_arch.specs.declared.ends.Source.{Source}
pub use Rattle.tta_arch.specs.declared.parts.File.{File}
pub use Rattle.tta_arch.specs.declared.parts.Guard.{Guard}
pub use Rattle.tta_arch.specs.declared.parts.ImmUnit.{ImmUnit}
pub use Rattle.tta_arch.specs.declared.parts.Op.{Op}
pub use Rattle.tta_arch.specs.declared.parts.Op.TheVariants.{Ldf, Ldw, Out, Set, Stf, Stw, Take}
pub use Rattle.tta_arch.specs.declared.parts.Template.{Template}
pub use Rattle.tta_arch.specs.declared.parts.UnitOp.{UnitOp}
pub use Rattle.tta_code.specs.Cycle.{Fault, Halted, Outcome, Result', State, Waiting, acts, carry_out, clashes, effect_of, effects_of, fault_of, first_fault, lands, later, long_effects, moves_of, next_of, or_fault, or_wait, pending_after, port, read_source, reads_unset_port, reads_unset_register, result_of, start, takes_effect, waits}
unfoldable pub use Rattle.tta_code.specs.Cycle.{next}
pub use Rattle.tta_code.specs.Legal.{IsLegalCode, ends_of}
unfoldable pub use Rattle.tta_code.specs.Legal.{is_legal}
pub use Rattle.tta_code.specs.Results.{due_at, is_due, latest, word_due}
pub use Rattle.tta_code.specs.declared.code.Code.{Code}
pub use Rattle.tta_code.specs.declared.code.Instruction.{Instruction}
pub use Rattle.tta_code.specs.declared.code.Long.{Long}
pub use Rattle.tta_code.specs.declared.code.Move.{Move}
pub use Rattle.tta_flight.specs.Flight.{StandsFor, StayBeside}
pub use Rattle.tta_flight.specs.Rings.{AreAllOver, HasCome, HaveCome, IsAdvanced, IsStarted, Rings, due_in, is_among, later_in, longest_of, rings_of, shown_in}
pub use Rattle.tta_flight.specs.declared.marked.Marked.{Marked}
pub use Rattle.tta_flight.specs.declared.ring.Ring.{Ring}
pub use Rattle.tta_list.specs.Input.{IsFed, left}
pub use Rattle.tta_list.specs.Iterate.{iterate}
pub use Rattle.tta_ops.specs.Set.{stated}
pub use Rattle.tta_ops.specs.Units.{Units}
