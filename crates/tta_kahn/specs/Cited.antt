-- What the definitions and lemmas of this crate cite of other crates, passed on from one place. Declares nothing.
pub use Rattle.tta_refines.specs.Agrees.{AgreesAt, AreWords, IsGiven, code_at, program_at}
pub use Rattle.tta_arch.specs.Effects.{Brought, Calls, Control, Halts, Imm, Jumps, Kind, Operand, Reads, Reg, Start, Target, Trigger, Written, bring, control_of, first_some, has_result, long_effect, moved, operand_of, put_out, result_word, start_of, store_data, store_frame, take_in, target_of, write_of}
pub use Rattle.tta_arch.specs.Legal.{same_place}
pub use Rattle.tta_arch.specs.Machine.{Machine}
pub use Rattle.tta_arch.specs.Rules.{IsMachine, are_different, is_stream_op}
pub use Rattle.tta_arch.specs.declared.ends.Dest.{Dest}
pub use Rattle.tta_arch.specs.declared.parts.Op.{Op}
pub use Rattle.tta_arch.specs.declared.parts.Op.TheVariants.{Ldf, Ldw, Out, Set, Stf, Stw}
pub use Rattle.tta_arch.specs.declared.parts.Template.{Template}
pub use Rattle.tta_arch.specs.declared.parts.UnitOp.{UnitOp}
pub use Rattle.tta_code.specs.Cycle.{Fault, Pending, Result', acts, effect_of, effects_of, fault_of, lands, long_effects, moves_of, or_fault, or_wait, pending_after, read_source, result_of, takes_effect}
pub use Rattle.tta_code.specs.Legal.{IsLegalCode}
unfoldable pub use Rattle.tta_code.specs.Legal.{is_legal}
pub use Rattle.tta_code.specs.Whole.{Whole, data_in}
pub use Rattle.tta_code.specs.declared.code.Code.{Code}
pub use Rattle.tta_code.specs.declared.code.Instruction.{Instruction}
pub use Rattle.tta_code.specs.declared.code.Long.{Long}
pub use Rattle.tta_code.specs.declared.code.Move.{Move}
pub use Rattle.tta_list.specs.Input.{left}
pub use Rattle.tta_list.specs.Iterate.{iterate}
pub use Rattle.tta_list.specs.Laid.{over}
pub use Rattle.tta_list.specs.Prefix.{IsPrefixOf}
pub use Rattle.tta_ops.specs.Units.{Units}
pub use Rattle.tta_program.specs.Program.{Program, data_of, datum_of}
pub use Rattle.tta_program.specs.Rules.{IsProc, IsProgram, is_call, is_datum, is_src, is_step}
pub use Rattle.tta_program.specs.Sequential.{Frame, assigns, enter, go_on, goes_through, goes_to, holds, operand, step_at, take_value}
pub use Rattle.tta_program.specs.declared.operand.Src.{Src}
pub use Rattle.tta_program.specs.declared.operand.Src.TheVariants.{Var, Word}
pub use Rattle.tta_program.specs.declared.program.DataLine.{DataLine}
pub use Rattle.tta_program.specs.declared.program.Proc.{Proc}
pub use Rattle.tta_program.specs.declared.step.Step.{Step}
pub use Rattle.tta_program.specs.declared.step.Step.TheVariants.{Apply, Copy, End, Goto, Halt, If, Invoke, Load, Put, Return, Store, When}
