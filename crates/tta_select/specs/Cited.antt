-- What the definitions and lemmas of this crate cite of other crates, passed on from one place. Declares nothing.
pub use Rattle.tta_arch.specs.Effects.{Calls, Control, Effect, Halts, Imm, Jumps, KeptImm, KeptOperand, KeptPort, KeptRa, KeptReg, Operand, Start, Target, Trigger, Written, bring, has_result, has_unset, has_unset_guard, kept, lacks_operand, op_at, operand_of, or_else, passes, same_place, start_of, target_of, width_of}
pub use Rattle.tta_arch.specs.Joins.{dest_socket, has_bit, has_guard, has_socket, holds_word, is_dest_on, is_same, is_source_on, joins, source_socket}
pub use Rattle.tta_arch.specs.Machine.{Machine}
pub use Rattle.tta_arch.specs.Over.{StandsOver}
pub use Rattle.tta_arch.specs.Rules.{IsBusSet, IsMachine, fits_kind, is_frame_op, is_from_to, is_port_socket, is_socket, is_unit, is_unit_op, same_op}
pub use Rattle.tta_arch.specs.declared.ends.Dest.{Dest}
pub use Rattle.tta_arch.specs.declared.ends.GuardRef.{GuardRef}
pub use Rattle.tta_arch.specs.declared.ends.Source.{Source}
pub use Rattle.tta_arch.specs.declared.parts.Bus.{Bus}
pub use Rattle.tta_arch.specs.declared.parts.File.{File}
pub use Rattle.tta_arch.specs.declared.parts.Op.{Op}
pub use Rattle.tta_arch.specs.declared.parts.Op.TheVariants.{Ldf, Ldw, Out, Set, Stf, Stw}
pub use Rattle.tta_arch.specs.declared.parts.Socket.{Socket}
pub use Rattle.tta_arch.specs.declared.parts.UnitOp.{UnitOp}
pub use Rattle.tta_connect.specs.Coverage.{IsChoice, anywhere, brings_all, buses_of, call_if, call_in, can_guard, failed_rule, first_by, from, guard_in, guard_register, has_senses, homes_from, hub_feeds, hub_of, into, is_home_file, is_hub, is_usable, is_usable_at, offered, registers_from, some_bus}
pub use Rattle.tta_connect.specs.declared.calls.Call.{Call}
pub use Rattle.tta_connect.specs.declared.choice.Choice.{Choice}
pub use Rattle.tta_list.specs.Legs.{AllPairs, Leave, Run, ToBlock, ToHalt, ToNext, ToNowhere, ToWait, next_leg}
pub use Rattle.tta_moves.specs.Forms.{is_detour, is_passing, is_port_source, is_straight, none_after, trail}
pub use Rattle.tta_moves.specs.Meaning.{Held, Leaves, Waits, acts, arrives, do_items, does_all, effect_of, has_meaning, is_waiting, linked, means, read_held, waits_for}
unfoldable pub use Rattle.tta_moves.specs.Meaning.{does, lacks}
pub use Rattle.tta_moves.specs.Runs.{AreAddresses, begin, block_at, go_list, leave_of, lives, lrun, restart}
pub use Rattle.tta_moves.specs.Slots.{carried, control_is_last, fills, has_slot, is_list, joined}
pub use Rattle.tta_moves.specs.Touches.{controls, guard_place, place_of_source, source_of, source_of_long, target_of_item, writes}
pub use Rattle.tta_moves.specs.declared.items.BlockList.{BlockList}
pub use Rattle.tta_moves.specs.declared.items.Item.{Item}
pub use Rattle.tta_moves.specs.declared.items.Item.TheVariants.{Long, Move}
pub use Rattle.tta_moves.specs.declared.items.ItemSource.{ItemSource}
pub use Rattle.tta_moves.specs.declared.items.ItemSource.TheVariants.{Address, Port}
pub use Rattle.tta_moves.specs.declared.items.LongValue.{LongValue}
pub use Rattle.tta_ops.specs.Set.{stated}
pub use Rattle.tta_ops.specs.Units.{Units, named}
pub use Rattle.tta_ops.specs.declared.OpId.{OpId}
pub use Rattle.tta_program.specs.Over.{test_name}
pub use Rattle.tta_program.specs.Sequential.{Halted, Outcome, Running, Waiting, holds, is_odd}
pub use Rattle.tta_program.specs.declared.operand.Rel.{Rel}
pub use Rattle.tta_program.specs.declared.operand.Rel.TheVariants.{Eq, Ge, Geu, Lt, Ltu, Ne}
pub use Rattle.tta_lir.specs.Counts.{Loads, Named, Need, Puts, Stores, Takes, asks, asks_exit, asks_rstep, assigns_block, assigns_place, assigns_rstep, counts_test, names, names_exit, names_place, names_src, names_step, weight, weight_block, weight_exit, weight_step}
pub use Rattle.tta_lir.specs.Direct.{one_block}
pub use Rattle.tta_lir.specs.Meaning.{Kept, Plain, Return, State, can_leave, carries, falls, falls_through, found, goes_on, is_ready, is_set, leaves, lost, operand, plain, puts_at, return_of, rrun, start, stay, steps_of, takes, to_block, transfers, unset, walk}
unfoldable pub use Rattle.tta_lir.specs.Meaning.{leg, step}
pub use Rattle.tta_lir.specs.declared.code.Exit.TheVariants.{Back, Goto, Halt, If, Invoke}
pub use Rattle.tta_lir.specs.declared.code.Place.TheVariants.{Frame}
pub use Rattle.tta_lir.specs.declared.code.RBlock.{RBlock}
pub use Rattle.tta_lir.specs.declared.code.RSrc.{RSrc}
pub use Rattle.tta_lir.specs.declared.code.RSrc.TheVariants.{At}
pub use Rattle.tta_lir.specs.declared.code.RStep.{RStep}
pub use Rattle.tta_lir.specs.declared.code.RStep.TheVariants.{Apply, Copy, Load, Put, SaveRa, Store, When}
pub use Rattle.tta_lir.specs.declared.code.Rir.{Rir}
