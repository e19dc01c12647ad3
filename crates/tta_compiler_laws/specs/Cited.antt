-- What the definitions and lemmas of this crate cite of other crates, passed on from one place. Declares nothing.
pub use Rattle.tta_refines.specs.Agrees.{Agrees}
pub use Rattle.tta_alloc.specs.Allotted.{SlotsAsScanned, AreAllottedOf}
unfoldable pub use Rattle.tta_alloc.specs.Homes.{count_of, home_of}
pub use Rattle.tta_alloc.specs.Intervals.{AreTaken, Counts, IsAssigned, IsBefore, IsLiveAfter, IsLiveAtEntry, IsLiveBefore, IsParam, IsRead}
pub use Rattle.tta_alloc.specs.Scan.{scan}
pub use Rattle.tta_alloc.specs.declared.home.Home.{Home}
pub use Rattle.tta_alloc.specs.declared.home.Home.TheVariants.{Slot}
pub use Rattle.tta_alloc.specs.declared.homes.Homes.{Homes}
pub use Rattle.tta_alloc.specs.declared.interval.Interval.{Interval}
pub use Rattle.tta_arch.specs.Effects.{Control, Imm, Operand, Target, Trigger, first_some, op_at}
pub use Rattle.tta_arch.specs.Machine.{Machine}
pub use Rattle.tta_arch.specs.Over.{StandsOver}
pub use Rattle.tta_arch.specs.Rules.{IsMachine, is_frame_op, same_op}
pub use Rattle.tta_arch.specs.declared.parts.Op.{Op}
pub use Rattle.tta_arch.specs.declared.parts.Op.TheVariants.{Ldf, Ldw, Out, Set, Stf, Stw}
pub use Rattle.tta_arch.specs.declared.parts.UnitOp.{UnitOp}
pub use Rattle.tta_code.specs.Legal.{IsLegalCode}
pub use Rattle.tta_code.specs.Whole.{Whole, data_in}
pub use Rattle.tta_code.specs.declared.code.Code.{Code}
pub use Rattle.tta_connect.specs.Coverage.{IsChoice, homes_from, homes_of, hub_of, registers_from}
pub use Rattle.tta_connect.specs.declared.calls.Call.{Call}
pub use Rattle.tta_connect.specs.declared.choice.Choice.{Choice}
pub use Rattle.tta_flow.specs.Blocks.{IsFlow, StandsBefore}
pub use Rattle.tta_flow.specs.Live.{IsLive}
unfoldable pub use Rattle.tta_flow.specs.Live.{live_after, live_before}
pub use Rattle.tta_flow.specs.Paths.{LiveBefore, ReadHere, ReadLater}
pub use Rattle.tta_flow.specs.Steps.{assigns_at, reads_at}
pub use Rattle.tta_flow.specs.declared.flow.Block.{Block}
pub use Rattle.tta_flow.specs.declared.live.Live.{Live}
pub use Rattle.tta_link.specs.Blocks.{AreBlocks, IsBlock, is_within, total_length}
pub use Rattle.tta_link.specs.Linked.{IsLinked}
pub use Rattle.tta_list.specs.Laid.{over}
pub use Rattle.tta_list.specs.Legs.{AllPairs}
pub use Rattle.tta_lower.specs.Counts.{asks_part, asks_step, assigns_part, assigns_step, fetched, in_slot, over_live, over_steps, slot_src, traffic, traffic_step}
pub use Rattle.tta_lower.specs.LoweringInput.{first_by, home_by, known_by, reg_of}
pub use Rattle.tta_lower.specs.Law.{IsKnown, IsRegisterCode}
pub use Rattle.tta_lower.specs.Layout.{back, code_from, exit_for, first_value, gives, keeps_ra, params_of, passes, place, sets, sets_from, source, steps_for, value_slot, var_slot, vars_of}
pub use Rattle.tta_lower.specs.Liveness.{LoweringInput}
pub use Rattle.tta_lower.specs.Lower.{block_of, entry_number, lowered, number_of, parts}
pub use Rattle.tta_lower.specs.declared.part.Part.{Part}
pub use Rattle.tta_lower.specs.declared.part.Part.TheVariants.{Entry, Returned, Steps}
pub use Rattle.tta_moves.specs.Bounds.{Respects}
pub use Rattle.tta_moves.specs.FirstFit.{IsFirstFit}
pub use Rattle.tta_moves.specs.Forms.{is_bypassable, is_bypassed, is_lively, is_redundant, is_shared, is_straight, none_after}
pub use Rattle.tta_moves.specs.Runs.{AreAddresses, lrun}
pub use Rattle.tta_moves.specs.Slots.{control_is_last, has_slot, is_list}
pub use Rattle.tta_moves.specs.Touches.{source_of, target_of_item}
pub use Rattle.tta_moves.specs.declared.items.BlockList.{BlockList}
pub use Rattle.tta_moves.specs.declared.items.Item.{Item}
pub use Rattle.tta_moves.specs.declared.items.Item.TheVariants.{Long, Move}
pub use Rattle.tta_moves.specs.declared.items.ItemSource.{ItemSource}
pub use Rattle.tta_moves.specs.declared.items.ItemSource.TheVariants.{Address, Port}
pub use Rattle.tta_moves.specs.declared.items.Placed.{Placed}
pub use Rattle.tta_moves.specs.declared.items.PlacedItem.{PlacedItem}
pub use Rattle.tta_ops.specs.Units.{Units}
pub use Rattle.tta_optim.specs.Kept.{Aim, AsksNoMore, IsEquivalent, StandsFor, ToControl, ToImm, ToOperand, ToReg, ToStart, aim_of, is_address, is_scratch}
pub use Rattle.tta_optim.specs.Passes.{optimise_items}
pub use Rattle.tta_sched_laws.specs.Means.{MeanAt, Means}
pub use Rattle.tta_sched_laws.specs.Overlap.{ArePlaced}
pub use Rattle.tta_program.specs.Direct.{alone, only_constants, puts}
pub use Rattle.tta_program.specs.Program.{Program, data_of, datum_of, step_count}
pub use Rattle.tta_program.specs.Rules.{IsProgram, is_call, is_datum, is_src, is_step}
pub use Rattle.tta_program.specs.Sequential.{Outcome, step_at}
pub use Rattle.tta_program.specs.Sizes.{arg_count, frame_need, var_count}
pub use Rattle.tta_program.specs.declared.operand.Src.{Src}
pub use Rattle.tta_program.specs.declared.operand.Src.TheVariants.{Var}
pub use Rattle.tta_program.specs.declared.program.DataLine.{DataLine}
pub use Rattle.tta_program.specs.declared.program.Proc.{Proc}
pub use Rattle.tta_program.specs.declared.step.Step.{Step}
pub use Rattle.tta_program.specs.declared.step.Step.TheVariants.{End, Return}
pub use Rattle.tta_lir.specs.Closed.{block_passes, exit_passes, is_closed_block, is_place, leads_within, src_passes, step_passes}
pub use Rattle.tta_lir.specs.Counts.{Need, asks, assigns_block, names}
pub use Rattle.tta_lir.specs.Direct.{one_block}
pub use Rattle.tta_lir.specs.Meaning.{is_running, rrun}
pub use Rattle.tta_lir.specs.declared.code.Exit.{Exit}
pub use Rattle.tta_lir.specs.declared.code.Exit.TheVariants.{Back, Next}
pub use Rattle.tta_lir.specs.declared.code.Place.{Place}
pub use Rattle.tta_lir.specs.declared.code.Place.TheVariants.{Frame}
pub use Rattle.tta_lir.specs.declared.code.RBlock.{RBlock}
pub use Rattle.tta_lir.specs.declared.code.RSrc.{RSrc}
pub use Rattle.tta_lir.specs.declared.code.RSrc.TheVariants.{At}
pub use Rattle.tta_lir.specs.declared.code.RStep.{RStep}
pub use Rattle.tta_lir.specs.declared.code.RStep.TheVariants.{SaveRa}
pub use Rattle.tta_lir.specs.declared.code.Rir.{Rir}
pub use Rattle.tta_sched.specs.Room.{HasRoom, longest}
pub use Rattle.tta_select.specs.Counts.{is_frame_trigger, is_home, is_need, is_start_of, is_trigger_of, items_in, targets}
pub use Rattle.tta_select.specs.Direct.{brings, constants_out, direct_list, out_of}
pub use Rattle.tta_select.specs.Keeps.{IsFit, as_legs}
pub use Rattle.tta_select.specs.Lists.{is_closed}
pub use Rattle.tta_select.specs.Needs.{fits_block, fits_step, is_exit_of, is_offered, is_step_of, op_of_exit, op_of_step, word_block, word_exit, word_src, word_step}
pub use Rattle.tta_select.specs.Relation.{is_place_of, is_src_of}
pub use Rattle.tta_select.specs.Select.{home_pair, list_of, selected, test_op}
pub use Rattle.tta_select.specs.Statement.{IsGiven, IsListFor, IsSelection, TriggersNoMore}
