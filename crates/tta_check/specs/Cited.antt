-- What the definitions and lemmas of this crate cite of other crates, passed on from one place. Declares nothing.
pub use Rattle.tta_arch.specs.Effects.{Brought, Calls, Control, Effect, Halts, Jumps, KeptImm, KeptOperand, KeptPort, KeptRa, KeptReg, Kind, Place, Target, Trigger, Written, bring, control_of, first_some, has_result, has_unset, has_unset_guard, is_active, is_port, is_register, kept, lacks_operand, long_effect, op_at, operand_of, or_else, passes, put_out, result_word, start_of, store_data, store_frame, take_in, target_of, width_of, write_of}
pub use Rattle.tta_arch.specs.Joins.{has_bit, is_same, is_same_guard}
pub use Rattle.tta_arch.specs.Legal.{are_apart, ends_of}
unfoldable pub use Rattle.tta_arch.specs.Legal.{can_move}
pub use Rattle.tta_arch.specs.Machine.{Machine}
pub use Rattle.tta_arch.specs.Rules.{IsMachine, fits_kind, is_from_to}
pub use Rattle.tta_arch.specs.declared.ends.Dest.{Dest}
pub use Rattle.tta_arch.specs.declared.ends.GuardRef.{GuardRef}
pub use Rattle.tta_arch.specs.declared.ends.Source.{Source}
pub use Rattle.tta_arch.specs.declared.ends.Source.TheVariants.{Value}
pub use Rattle.tta_arch.specs.declared.parts.Op.{Op}
pub use Rattle.tta_arch.specs.declared.parts.Op.TheVariants.{Ldf, Ldw, Out, Set, Stf, Stw, Take}
pub use Rattle.tta_arch.specs.declared.parts.Template.{Template}
pub use Rattle.tta_arch.specs.declared.parts.UnitOp.{UnitOp}
pub use Rattle.tta_code.specs.Cycle.{Fault, Halted, Pending, Result', Running, State, Waiting, carry_out, clashes, cyc, effect_of, effects_of, fault_of, first_fault, jumps_in_delay, lands, later, long_effects, moves_of, next_of, or_fault, or_wait, pending_after, port, read_source, reads_unset_port, reads_unset_register, result_of, takes_effect}
unfoldable pub use Rattle.tta_code.specs.Cycle.{next}
pub use Rattle.tta_code.specs.Legal.{IsLegalCode}
unfoldable pub use Rattle.tta_code.specs.Legal.{is_legal}
pub use Rattle.tta_code.specs.declared.code.Code.{Code}
pub use Rattle.tta_code.specs.declared.code.Instruction.{Instruction}
pub use Rattle.tta_code.specs.declared.code.Long.{Long}
pub use Rattle.tta_code.specs.declared.code.Move.{Move}
pub use Rattle.tta_ops.specs.Units.{Units}
