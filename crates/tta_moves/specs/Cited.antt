-- What the definitions and lemmas of this crate cite of other crates, passed on from one place. Declares nothing.
pub use Rattle.tta_arch.specs.Effects.{Brought, Calls, Control, Effect, Halts, Imm, Jumps, KeptImm, KeptOperand, KeptPort, KeptRa, KeptReg, Kind, Operand, Place, Reads, Reg, Start, Target, Trigger, Written, bring, control_of, first_some, guard_word, has_result, has_unset, has_unset_guard, is_active, kept, lacks_operand, moved, op_at, operand_of, or_else, passes, put_out, result_word, same_place, start_of, store_data, store_frame, take_in, takes, target_of, write_of}
pub use Rattle.tta_arch.specs.Joins.{dest_socket, has_bit, has_guard, has_socket, holds_word, is_dest_on, is_same, is_same_guard, is_source_on, joins, source_socket, within}
pub use Rattle.tta_arch.specs.Legal.{Ends, Slots, all_slots, are_apart, ends_of, has_reads, has_writes, is_joined, keeps_taken, reads_file, reads_imm, writes_file}
unfoldable pub use Rattle.tta_arch.specs.Legal.{can_move}
pub use Rattle.tta_arch.specs.Machine.{Machine}
pub use Rattle.tta_arch.specs.Rules.{IsBusSet, IsMachine, are_different, is_bus, is_file, is_from_to, is_guard, is_imm, is_port_socket, is_socket, is_template}
pub use Rattle.tta_arch.specs.declared.ends.Dest.{Dest}
pub use Rattle.tta_arch.specs.declared.ends.GuardRef.{GuardRef}
pub use Rattle.tta_arch.specs.declared.ends.Source.{Source}
pub use Rattle.tta_arch.specs.declared.parts.File.{File}
pub use Rattle.tta_arch.specs.declared.parts.Guard.{Guard}
pub use Rattle.tta_arch.specs.declared.parts.ImmUnit.{ImmUnit}
pub use Rattle.tta_arch.specs.declared.parts.Socket.{Socket}
pub use Rattle.tta_arch.specs.declared.parts.UnitOp.{UnitOp}
pub use Rattle.tta_list.specs.Legs.{AllPairs, Halted, Leave, Outcome, Run, Running, ToBlock, ToHalt, ToNext, ToNowhere, ToWait, Undefined, Waiting, after_block, leg, legs, next_leg, next_of}
pub use Rattle.tta_ops.specs.Units.{Units}
