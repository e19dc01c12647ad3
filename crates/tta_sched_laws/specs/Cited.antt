-- What the definitions and lemmas of this crate cite of other crates, passed on from one place. Declares nothing.
pub use Rattle.tta_refines.specs.Agrees.{Agrees, HaltAlike, IsGiven, WaitAlike, program_at}
pub use Rattle.tta_arch.specs.Effects.{Brought, Calls, Control, Effect, Halts, Imm, Jumps, KeptImm, KeptOperand, KeptPort, KeptRa, KeptReg, Kind, Operand, Place, Reads, Reg, Start, Target, Trigger, Written, bring, control_of, first_some, has_result, has_unset, has_unset_guard, is_active, is_port, is_register, kept, lacks_operand, long_effect, moved, op_at, operand_of, or_else, put_out, result_word, start_of, store_data, store_frame, take_in, takes, takes_in, target_of, write_of}
pub use Rattle.tta_arch.specs.Joins.{has_guard, has_socket, is_dest_on, is_source_on, within}
pub use Rattle.tta_arch.specs.Legal.{are_apart, ends_of, has_reads, has_writes, is_joined, keeps_taken}
unfoldable pub use Rattle.tta_arch.specs.Legal.{can_move}
pub use Rattle.tta_arch.specs.Machine.{Machine}
pub use Rattle.tta_arch.specs.Rules.{IsMachine, are_different, fits_kind, has_one_owner, is_data_op, is_frame_op, is_from_to, is_port_socket, is_socket, is_stream_op}
pub use Rattle.tta_arch.specs.declared.ends.Dest.{Dest}
pub use Rattle.tta_arch.specs.declared.ends.GuardRef.{GuardRef}
pub use Rattle.tta_arch.specs.declared.ends.Source.{Source}
pub use Rattle.tta_arch.specs.declared.parts.Op.{Op}
pub use Rattle.tta_arch.specs.declared.parts.Op.TheVariants.{Ldf, Ldw, Out, Set, Stf, Stw, Take}
pub use Rattle.tta_arch.specs.declared.parts.UnitOp.{UnitOp}
pub use Rattle.tta_code.specs.Cycle.{Fault, Outcome, Pending, Result', State, carry_out, clashes, cyc, effects_of, fault_of, lands, later, long_effects, moves_of, next_of, or_fault, or_wait, pending_after, port, read_source, reads_unset_port, reads_unset_register, result_of, start, takes_effect, waits}
unfoldable pub use Rattle.tta_code.specs.Cycle.{next}
pub use Rattle.tta_code.specs.Legal.{IsLegalCode, is_instruction}
unfoldable pub use Rattle.tta_code.specs.Legal.{is_legal}
pub use Rattle.tta_code.specs.Whole.{Whole, data_in}
pub use Rattle.tta_code.specs.declared.code.Code.{Code}
pub use Rattle.tta_code.specs.declared.code.Instruction.{Instruction}
pub use Rattle.tta_code.specs.declared.code.Long.{Long}
pub use Rattle.tta_link.specs.Linked.{HoldsBlock, IsLinked, block_words, instruction_of, long_on, long_word, move_on, starts_from}
pub use Rattle.tta_list.specs.Iterate.{iterate}
pub use Rattle.tta_list.specs.Laid.{over}
pub use Rattle.tta_list.specs.Legs.{Leave, ToBlock, ToHalt, ToNext, ToNowhere, ToWait, Undefined, after_block, leg, next_leg}
pub use Rattle.tta_list.specs.Prefix.{IsPrefixOf}
pub use Rattle.tta_moves.specs.Bounds.{At, Respects, Spot, Started, Touch, behind, bound, control_cycle, due_after, from_moment, in_cycle, last_end, lasts, least, length_of, operand_read, over_before, same_spot, written_at}
pub use Rattle.tta_moves.specs.Meaning.{Exit, Held, Leaves, Next, arrives, do_items, does_all, effect_of, exit_after, is_waiting, linked, means, read_held, waits_for}
unfoldable pub use Rattle.tta_moves.specs.Meaning.{does, lacks}
pub use Rattle.tta_moves.specs.Runs.{AreAddresses, begin, block_at, go_list, leave_of, lives, lrun, restart}
pub use Rattle.tta_moves.specs.Slots.{carried, carries, clash, control_is_last, fills, slots_of, taken_of}
unfoldable pub use Rattle.tta_moves.specs.Slots.{fits_cycle}
pub use Rattle.tta_moves.specs.Touches.{controls, place_of, place_of_source, source_of, source_of_long, target_of_item}
pub use Rattle.tta_moves.specs.declared.items.BlockList.{BlockList}
pub use Rattle.tta_moves.specs.declared.items.Item.{Item}
pub use Rattle.tta_moves.specs.declared.items.ItemSource.{ItemSource}
pub use Rattle.tta_moves.specs.declared.items.ItemSource.TheVariants.{Address, Port}
pub use Rattle.tta_moves.specs.declared.items.LongValue.{LongValue}
pub use Rattle.tta_moves.specs.declared.items.Placed.{Placed}
pub use Rattle.tta_moves.specs.declared.items.PlacedItem.{PlacedItem}
pub use Rattle.tta_moves.specs.declared.items.Slot.{Slot}
pub use Rattle.tta_moves.specs.declared.items.Slot.TheVariants.{Bus, Template}
pub use Rattle.tta_ops.specs.Units.{Units}
pub use Rattle.tta_program.specs.Program.{Program, data_of, step_count}
pub use Rattle.tta_program.specs.Sequential.{seq}
