-- What the definitions and lemmas of this crate cite of other crates, passed on from one place. Declares nothing.
pub use Rattle.tta_arch.specs.Effects.{first_some, or_else}
pub use Rattle.tta_arch.specs.Joins.{has_bit, has_guard, is_dest_on, is_source_on, joins}
pub use Rattle.tta_arch.specs.Legal.{Ends, Slots, all_below, all_slots, are_apart, ends_of, has_reads, has_writes, is_joined, keeps_taken, reads_file, reads_imm, same_place, writes_file}
unfoldable pub use Rattle.tta_arch.specs.Legal.{can_move}
pub use Rattle.tta_arch.specs.Machine.{Machine}
pub use Rattle.tta_arch.specs.Rules.{IsMachine, are_different}
pub use Rattle.tta_arch.specs.declared.ends.Dest.{Dest}
pub use Rattle.tta_arch.specs.declared.ends.GuardRef.{GuardRef}
pub use Rattle.tta_arch.specs.declared.ends.Source.{Source}
pub use Rattle.tta_code.specs.Legal.{IsLegalCode, is_instruction, is_long, taken}
unfoldable pub use Rattle.tta_code.specs.Legal.{is_legal}
pub use Rattle.tta_code.specs.declared.code.Code.{Code}
pub use Rattle.tta_code.specs.declared.code.Instruction.{Instruction}
pub use Rattle.tta_code.specs.declared.code.Long.{Long}
pub use Rattle.tta_code.specs.declared.code.Move.{Move}
pub use Rattle.tta_moves.specs.Bounds.{in_cycle}
pub use Rattle.tta_moves.specs.Meaning.{linked}
pub use Rattle.tta_moves.specs.Slots.{carried, carries, clash, ends_on, fills, slots_of, taken_by, taken_of}
unfoldable pub use Rattle.tta_moves.specs.Slots.{fits_cycle}
pub use Rattle.tta_moves.specs.declared.items.Item.{Item}
pub use Rattle.tta_moves.specs.declared.items.ItemSource.{ItemSource}
pub use Rattle.tta_moves.specs.declared.items.ItemSource.TheVariants.{Address, Port}
pub use Rattle.tta_moves.specs.declared.items.LongValue.{LongValue}
pub use Rattle.tta_moves.specs.declared.items.Placed.{Placed}
pub use Rattle.tta_moves.specs.declared.items.PlacedItem.{PlacedItem}
pub use Rattle.tta_moves.specs.declared.items.Slot.{Slot}
pub use Rattle.tta_moves.specs.declared.items.Slot.TheVariants.{Bus, Template}
