-- What the definitions and lemmas of this crate cite of other crates, passed on from one place. Declares nothing.
pub use Rattle.tta_arch.specs.Effects.{Brought, Calls, Control, Effect, Halts, Imm, Jumps, KeptImm, KeptOperand, KeptPort, KeptRa, KeptReg, Operand, Place, Reg, Start, Target, Trigger, Written, control_of, has_result, has_unset, has_unset_guard, is_active, kept, lacks_operand, moved, op_at, operand_of, operand_word, put_out, result_word, same_place, start_of, store_data, store_frame, take_in, takes, takes_in, write_of}
pub use Rattle.tta_arch.specs.Machine.{Machine}
pub use Rattle.tta_arch.specs.Rules.{IsMachine}
pub use Rattle.tta_arch.specs.declared.ends.GuardRef.{GuardRef}
pub use Rattle.tta_arch.specs.declared.parts.Op.{Op}
pub use Rattle.tta_arch.specs.declared.parts.Op.TheVariants.{Ldf, Ldw, Out, Set, Stf, Stw, Take}
pub use Rattle.tta_arch.specs.declared.parts.UnitOp.{UnitOp}
pub use Rattle.tta_connect.specs.Coverage.{hub_of}
pub use Rattle.tta_moves.specs.Forms.{is_detour, is_passing, is_port_source, is_straight, none_after, sure_source, trail}
pub use Rattle.tta_moves.specs.Meaning.{Exit, Held, Waits, acts, arrives, do_items, does_all, effect_of, exit_after, has_meaning, is_waiting, linked, means, read_held, result_at_once, waits_for}
unfoldable pub use Rattle.tta_moves.specs.Meaning.{does, lacks}
pub use Rattle.tta_moves.specs.Numbers.{is_place, place_number}
pub use Rattle.tta_moves.specs.Runs.{lives}
pub use Rattle.tta_moves.specs.Slots.{control_is_last, has_slot, is_list, joined}
pub use Rattle.tta_moves.specs.Touches.{controls, guard_of, guard_place, is_at, is_control, is_unguarded, place_of_source, place_written, reads, source_of, target_of_item, writes}
pub use Rattle.tta_moves.specs.declared.items.Item.{Item}
pub use Rattle.tta_moves.specs.declared.items.Item.TheVariants.{Long, Move}
pub use Rattle.tta_moves.specs.declared.items.ItemSource.{ItemSource}
pub use Rattle.tta_moves.specs.declared.items.ItemSource.TheVariants.{Address, Port}
pub use Rattle.tta_ops.specs.Units.{Units}
pub use Rattle.tta_optim.specs.Kept.{Alike, AsksNoMore, KeepsMeaning, aim_of, names}
