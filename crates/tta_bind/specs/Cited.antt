-- What the definitions and lemmas of this crate cite of other crates, passed on from one place. Declares nothing.
pub use Rattle.tta_arch.specs.Effects.{Brought, Calls, Control, Effect, Halts, Imm, Jumps, KeptImm, KeptOperand, KeptPort, KeptRa, KeptReg, Place, Reg, Start, Target, Trigger, Written, has_result, has_unset_guard, is_active, kept, lacks_operand, moved, op_at, operand_of, same_place, start_of, write_of}
pub use Rattle.tta_arch.specs.Machine.{Machine}
pub use Rattle.tta_arch.specs.Rules.{same_op}
pub use Rattle.tta_arch.specs.declared.ends.Dest.{Dest}
pub use Rattle.tta_arch.specs.declared.ends.GuardRef.{GuardRef}
pub use Rattle.tta_arch.specs.declared.parts.Op.{Op}
pub use Rattle.tta_arch.specs.declared.parts.Op.TheVariants.{Ldf, Ldw, Out, Set, Stf, Stw, Take}
pub use Rattle.tta_arch.specs.declared.parts.UnitOp.{UnitOp}
pub use Rattle.tta_connect.specs.Coverage.{hub_of}
pub use Rattle.tta_moves.specs.Forms.{is_straight}
pub use Rattle.tta_moves.specs.Meaning.{Held, Waits, acts, arrives, do_items, effect_of, has_meaning, is_waiting, linked, read_held, result_at_once, waits_for}
unfoldable pub use Rattle.tta_moves.specs.Meaning.{does, lacks}
pub use Rattle.tta_moves.specs.Runs.{lives}
pub use Rattle.tta_moves.specs.Slots.{is_list}
pub use Rattle.tta_moves.specs.Touches.{guard_of, guard_place, is_at, is_unguarded, place_written, source_of, target_of_item, writes}
pub use Rattle.tta_moves.specs.declared.items.BlockList.{BlockList}
pub use Rattle.tta_moves.specs.declared.items.Item.{Item}
pub use Rattle.tta_moves.specs.declared.items.Item.TheVariants.{Long, Move}
pub use Rattle.tta_moves.specs.declared.items.ItemSource.{ItemSource}
pub use Rattle.tta_moves.specs.declared.items.ItemSource.TheVariants.{Address}
pub use Rattle.tta_ops.specs.Units.{Units}
pub use Rattle.tta_optim.specs.Kept.{Aim, Alike, AsksNoMore, IsEquivalent, KeepsMeaning, ToStart, aim_of, is_address, names}
