-- What the definitions and lemmas of this crate cite of other crates, passed on from one place. Declares nothing.
pub use Rattle.tta_arch.specs.Effects.{Calls, Control, Halts, Imm, Jumps, KeptImm, KeptOperand, KeptPort, KeptReg, Operand, Place, Reg, Target, Trigger, first_some, has_result, op_at, or_else, target_of}
pub use Rattle.tta_arch.specs.Joins.{has_bit, has_guard, has_socket, is_dest_on, is_source_on, joins, within}
pub use Rattle.tta_arch.specs.Legal.{Ends, Slots, all_below, all_slots, are_apart, ends_of, has_reads, has_writes, is_joined, keeps_taken, reads_file, reads_imm, writes_file}
unfoldable pub use Rattle.tta_arch.specs.Legal.{can_move}
pub use Rattle.tta_arch.specs.Machine.{Machine}
pub use Rattle.tta_arch.specs.Rules.{IsMachine, fits_kind, is_file, is_from_to, is_socket}
pub use Rattle.tta_arch.specs.declared.ends.Dest.{Dest}
pub use Rattle.tta_arch.specs.declared.ends.GuardRef.{GuardRef}
pub use Rattle.tta_arch.specs.declared.parts.File.{File}
pub use Rattle.tta_arch.specs.declared.parts.Op.{Op}
pub use Rattle.tta_arch.specs.declared.parts.Op.TheVariants.{Ldf, Ldw, Out, Set, Stf, Stw, Take}
pub use Rattle.tta_arch.specs.declared.parts.UnitOp.{UnitOp}
pub use Rattle.tta_depend.specs.Stands.{Kept, Stands, end_of, is_spot, is_within}
pub use Rattle.tta_moves.specs.Bounds.{At, Respects, Spot, Started, Touch, behind, bound, control_cycle, due_after, from_moment, in_cycle, last_end, lasts, least, length_of, operand_read, over_before, reads_by, same_spot, writes_by, written_at}
pub use Rattle.tta_moves.specs.FirstFit.{FitsFirst, IsFirstFit, fits_beside, number_of}
pub use Rattle.tta_moves.specs.Numbers.{is_place}
pub use Rattle.tta_moves.specs.Slots.{carried, carries, control_is_last, ends_on, fills, has_slot, is_list, slots_of, taken_of}
unfoldable pub use Rattle.tta_moves.specs.Slots.{fits_cycle}
pub use Rattle.tta_moves.specs.Touches.{controls, guard_of, guard_place, is_control, place_of_source, place_written, source_of, target_of_item}
pub use Rattle.tta_moves.specs.declared.items.Item.{Item}
pub use Rattle.tta_moves.specs.declared.items.Placed.{Placed}
pub use Rattle.tta_moves.specs.declared.items.PlacedItem.{PlacedItem}
pub use Rattle.tta_moves.specs.declared.items.Slot.{Slot}
pub use Rattle.tta_moves.specs.declared.items.Slot.TheVariants.{Bus, Template}
pub use Rattle.tta_reserve.specs.Booked.{IsLeastSlot, StandsFor}
pub use Rattle.tta_reserve.specs.Taken.{is_apart}
pub use Rattle.tta_reserve.specs.declared.row.Row.{Row}
