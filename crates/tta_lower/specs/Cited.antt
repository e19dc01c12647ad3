-- What the definitions and lemmas of this crate cite of other crates, passed on from one place. Declares nothing.
pub use Rattle.tta_alloc.specs.Allotted.{SlotsAsScanned}
unfoldable pub use Rattle.tta_alloc.specs.Homes.{count_of, home_of}
pub use Rattle.tta_alloc.specs.Intervals.{IsAssigned, IsKept, IsLiveAfter, IsLiveAtEntry, IsLiveBefore, IsRead, keeps}
pub use Rattle.tta_alloc.specs.Law.{KeepsLaw}
pub use Rattle.tta_alloc.specs.declared.home.Home.{Home}
pub use Rattle.tta_alloc.specs.declared.home.Home.TheVariants.{Slot}
pub use Rattle.tta_flow.specs.Live.{IsLive}
unfoldable pub use Rattle.tta_flow.specs.Live.{live_after, live_before}
pub use Rattle.tta_flow.specs.Paths.{Begin, Onward, ReadHere, ReadLater}
pub use Rattle.tta_flow.specs.declared.live.Live.{Live}
pub use Rattle.tta_list.specs.Iterate.{iterate}
pub use Rattle.tta_list.specs.Legs.{AllPairs}
pub use Rattle.tta_list.specs.Prefix.{IsPrefixOf}
pub use Rattle.tta_ops.specs.Units.{Units}
pub use Rattle.tta_ops.specs.declared.OpId.{OpId}
pub use Rattle.tta_program.specs.Direct.{alone, only_constants, puts}
pub use Rattle.tta_program.specs.Program.{Program, step_count}
pub use Rattle.tta_program.specs.Rules.{ByCall, ByMore, IsProc, IsProgram, Reaches, calls, calls_proc, is_src, is_step}
pub use Rattle.tta_program.specs.Sequential.{Halted, Outcome, Running, Waiting, enter, goes_through, holds, seq, step_at, take_value}
unfoldable pub use Rattle.tta_program.specs.Sequential.{next}
pub use Rattle.tta_program.specs.Sizes.{arg_count, args_in, frame_need, var_count}
pub use Rattle.tta_program.specs.declared.operand.Rel.{Rel}
pub use Rattle.tta_program.specs.declared.operand.Src.{Src}
pub use Rattle.tta_program.specs.declared.operand.Src.TheVariants.{Var}
pub use Rattle.tta_program.specs.declared.program.DataLine.{DataLine}
pub use Rattle.tta_program.specs.declared.program.Proc.{Proc}
pub use Rattle.tta_program.specs.declared.step.Step.{Step}
pub use Rattle.tta_program.specs.declared.step.Step.TheVariants.{End, Load, Store, Take, When}
pub use Rattle.tta_lir.specs.Closed.{IsClosed, block_passes, exit_passes, is_closed_block, is_not_slot, is_place, leads_within, src_passes, step_passes, wants_next}
pub use Rattle.tta_lir.specs.Counts.{Loads, Need, Puts, Stores, Takes, asks, asks_exit, asks_rstep, assigns_block, assigns_place, assigns_rstep, counts_need, counts_test, names, names_exit, names_place, names_src, weight, weight_block, weight_exit, weight_step}
pub use Rattle.tta_lir.specs.Direct.{one_block}
pub use Rattle.tta_lir.specs.Meaning.{Kept, Plain, found, is_running, operand, plain, put_reg, put_slot, rrun, stay, steps_of, walk, word}
unfoldable pub use Rattle.tta_lir.specs.Meaning.{leg, step}
pub use Rattle.tta_lir.specs.declared.code.Exit.{Exit}
pub use Rattle.tta_lir.specs.declared.code.Exit.TheVariants.{Back, Next}
pub use Rattle.tta_lir.specs.declared.code.Place.{Place}
pub use Rattle.tta_lir.specs.declared.code.RBlock.{RBlock}
pub use Rattle.tta_lir.specs.declared.code.RSrc.{RSrc}
pub use Rattle.tta_lir.specs.declared.code.RSrc.TheVariants.{At}
pub use Rattle.tta_lir.specs.declared.code.RStep.{RStep}
pub use Rattle.tta_lir.specs.declared.code.RStep.TheVariants.{SaveRa}
pub use Rattle.tta_lir.specs.declared.code.Rir.{Rir}
