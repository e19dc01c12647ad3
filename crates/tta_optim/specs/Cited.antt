-- What the definitions and lemmas of this crate cite of other crates, passed on from one place. Declares nothing.
pub use Rattle.tta_arch.specs.Effects.{Brought, Calls, Control, Effect, Halts, Imm, Jumps, KeptImm, KeptOperand, KeptPort, KeptRa, KeptReg, Kind, Operand, Place, Reg, Start, Target, Trigger, Written, bring, has_result, has_unset, has_unset_guard, is_active, kept, lacks_operand, moved, op_at, operand_word, same_place, start_of, store_frame, width_of}
pub use Rattle.tta_arch.specs.Machine.{Machine}
pub use Rattle.tta_arch.specs.Rules.{IsMachine}
pub use Rattle.tta_arch.specs.declared.ends.Dest.{Dest}
pub use Rattle.tta_arch.specs.declared.ends.GuardRef.{GuardRef}
pub use Rattle.tta_arch.specs.declared.ends.Source.{Source}
pub use Rattle.tta_arch.specs.declared.parts.File.{File}
pub use Rattle.tta_arch.specs.declared.parts.Op.{Op}
pub use Rattle.tta_arch.specs.declared.parts.Op.TheVariants.{Ldf, Ldw, Out, Set, Stf, Stw, Take}
pub use Rattle.tta_arch.specs.declared.parts.UnitOp.{UnitOp}
pub use Rattle.tta_connect.specs.Coverage.{hub_of}
pub use Rattle.tta_list.specs.Legs.{AllPairs, Run, ToNowhere, ToWait, Undefined}
pub use Rattle.tta_moves.specs.Forms.{copied, is_bypassable, is_bypassed, is_dead, is_detour, is_lively, is_passing, is_port_source, is_redundant, is_shared, is_straight, is_wanted, is_wide_file, none_after, port_for, register_of, same_source, shown_in_place_of, sure_source, trail, unless_written}
pub use Rattle.tta_moves.specs.Meaning.{Exit, Held, Leaves, Next, Waits, acts, arrives, do_items, does_all, effect_of, has_meaning, is_waiting, linked, means, read_held, waits_for}
unfoldable pub use Rattle.tta_moves.specs.Meaning.{does, lacks}
pub use Rattle.tta_moves.specs.Numbers.{is_place, place_number}
pub use Rattle.tta_moves.specs.Runs.{begin, go_list, leave_of, lives, lrun, restart}
pub use Rattle.tta_moves.specs.Slots.{control_is_last, has_slot, is_list, joined}
pub use Rattle.tta_moves.specs.Touches.{controls, guard_of, guard_place, is_at, is_control, is_unguarded, place_of, place_of_source, place_written, reads, source_of, target_of_item, writes}
pub use Rattle.tta_moves.specs.declared.items.BlockList.{BlockList}
pub use Rattle.tta_moves.specs.declared.items.Item.{Item}
pub use Rattle.tta_moves.specs.declared.items.Item.TheVariants.{Long, Move}
pub use Rattle.tta_moves.specs.declared.items.ItemSource.{ItemSource}
pub use Rattle.tta_moves.specs.declared.items.ItemSource.TheVariants.{Address, Port}
pub use Rattle.tta_ops.specs.Units.{Units}
