-- What the definitions and lemmas of this crate cite of other crates, passed on from one place. Declares nothing.
pub use Rattle.tta_arch.specs.Effects.{Control, Effect, Imm, KeptImm, KeptOperand, KeptPort, KeptRa, KeptReg, Place, Reg, Start, Target, Trigger, Written, bring, has_result, has_unset_guard, is_active, kept, lacks_operand, moved, op_at, operand_of, operand_word, same_place, start_of, store_frame, takes_in, width_of}
pub use Rattle.tta_arch.specs.Machine.{Machine}
pub use Rattle.tta_arch.specs.Rules.{IsMachine}
pub use Rattle.tta_arch.specs.declared.ends.GuardRef.{GuardRef}
pub use Rattle.tta_arch.specs.declared.ends.Source.{Source}
pub use Rattle.tta_arch.specs.declared.parts.Op.{Op}
pub use Rattle.tta_arch.specs.declared.parts.Op.TheVariants.{Ldf, Ldw, Out, Set, Stf, Stw, Take}
pub use Rattle.tta_arch.specs.declared.parts.UnitOp.{UnitOp}
pub use Rattle.tta_connect.specs.Coverage.{hub_of}
pub use Rattle.tta_moves.specs.Forms.{copied, is_detour, is_passing, is_port_source, is_straight, none_after, same_end, same_source, sure_source, trail}
pub use Rattle.tta_moves.specs.Meaning.{Held, Waits, acts, arrives, do_items, effect_of, has_meaning, is_waiting, linked, read_held, result_at_once, waits_for}
unfoldable pub use Rattle.tta_moves.specs.Meaning.{does, lacks}
pub use Rattle.tta_moves.specs.Numbers.{is_place, place_number}
pub use Rattle.tta_moves.specs.Runs.{lives}
pub use Rattle.tta_moves.specs.Slots.{has_slot, is_list, joined}
pub use Rattle.tta_moves.specs.Touches.{guard_of, guard_place, is_at, is_unguarded, place_of, place_of_source, place_written, reads, source_of, target_of_item, writes}
pub use Rattle.tta_moves.specs.declared.items.BlockList.{BlockList}
pub use Rattle.tta_moves.specs.declared.items.Item.{Item}
pub use Rattle.tta_moves.specs.declared.items.Item.TheVariants.{Long, Move}
pub use Rattle.tta_moves.specs.declared.items.ItemSource.{ItemSource}
pub use Rattle.tta_moves.specs.declared.items.ItemSource.TheVariants.{Address, Port}
pub use Rattle.tta_ops.specs.Units.{Units}
pub use Rattle.tta_optim.specs.Kept.{Alike, AsksNoMore, IsEquivalent, KeepsFramed, KeepsMeaning, aim_of, is_scratch, names}
pub use Rattle.tta_optim.specs.Passes.{with_source}
pub use Rattle.tta_reorder.specs.Channels.{may_wait, operand_place, starts, stores_frame}
