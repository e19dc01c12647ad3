-- What the definitions and lemmas of this crate cite of other crates, passed on from one place. Declares nothing.
unfoldable pub use Rattle.tta_alloc.specs.Homes.{home_of}
pub use Rattle.tta_alloc.specs.Intervals.{Counts, IsAssigned, IsInterval, IsLiveAfter, IsLiveAtEntry, IsLiveBefore, IsParam, IsRead}
pub use Rattle.tta_alloc.specs.IsAnalysed.{IsAnalysed}
pub use Rattle.tta_alloc.specs.declared.home.Home.{Home}
pub use Rattle.tta_alloc.specs.declared.home.Home.TheVariants.{Slot}
pub use Rattle.tta_alloc.specs.declared.interval.Interval.{Interval}
pub use Rattle.tta_arch.specs.Fields.{numbers}
pub use Rattle.tta_arch.specs.Machine.{Machine}
pub use Rattle.tta_arch.specs.Rules.{IsMachine}
pub use Rattle.tta_arch.specs.declared.ends.Dest.{Dest}
pub use Rattle.tta_arch.specs.declared.ends.GuardRef.{GuardRef}
pub use Rattle.tta_arch.specs.declared.ends.Source.TheVariants.{Value}
pub use Rattle.tta_arch.specs.declared.parts.Op.TheVariants.{Set}
pub use Rattle.tta_disasm.specs.Canonical.{file_name, guard_text, imm_name, move_text, place_text}
unfoldable pub use Rattle.tta_disasm.specs.Canonical.{instruction_text}
pub use Rattle.tta_disasm.specs.Canonical.{op_name}
pub use Rattle.tta_build.specs.Parts.{IsCodeFor}
pub use Rattle.tta_build.specs.Value.{IsCompiled}
pub use Rattle.tta_build.specs.declared.trail.Order.{Order}
pub use Rattle.tta_build.specs.declared.trail.Order.TheVariants.{Groups, Items, Latest}
pub use Rattle.tta_build.specs.declared.trail.Ordered.{Ordered}
pub use Rattle.tta_build.specs.declared.trail.Round.{Round}
pub use Rattle.tta_build.specs.declared.trail.Rounds.{Rounds}
pub use Rattle.tta_build.specs.declared.trail.Start.{Start}
pub use Rattle.tta_build.specs.declared.trail.Derivation.{Derivation}
pub use Rattle.tta_build.specs.declared.value.Compiled.{Compiled}
pub use Rattle.tta_code.specs.Legal.{IsLegalCode}
pub use Rattle.tta_code.specs.declared.code.Code.{Code}
pub use Rattle.tta_code.specs.declared.code.Instruction.{Instruction}
pub use Rattle.tta_connect.specs.declared.choice.Choice.{Choice}
unfoldable pub use Rattle.tta_flow.specs.Live.{live_after, live_before}
pub use Rattle.tta_flow.specs.Paths.{Begin, LiveAfter, LiveBefore, Onward, Reached, ReadHere, ReadLater}
pub use Rattle.tta_flow.specs.Search.{is_found}
pub use Rattle.tta_flow.specs.Steps.{assigns_at}
pub use Rattle.tta_flow.specs.Table.{is_listed}
pub use Rattle.tta_flow.specs.declared.flow.Block.{Block}
pub use Rattle.tta_flow.specs.declared.live.Live.{Live}
pub use Rattle.tta_link.specs.Blocks.{total_length}
pub use Rattle.tta_link.specs.Linked.{IsLinked, starts_from}
pub use Rattle.tta_lower.specs.LoweringInput.{first_by}
pub use Rattle.tta_lower.specs.Lower.{parts}
pub use Rattle.tta_lower.specs.declared.part.Part.{Part}
pub use Rattle.tta_lower.specs.declared.part.Part.TheVariants.{Entry, Returned, Steps}
pub use Rattle.tta_moves.specs.declared.items.BlockList.{BlockList}
pub use Rattle.tta_moves.specs.declared.items.Item.{Item}
pub use Rattle.tta_moves.specs.declared.items.Item.TheVariants.{Long, Move}
pub use Rattle.tta_moves.specs.declared.items.ItemSource.{ItemSource}
pub use Rattle.tta_moves.specs.declared.items.ItemSource.TheVariants.{Address, Port}
pub use Rattle.tta_moves.specs.declared.items.LongValue.{LongValue}
pub use Rattle.tta_moves.specs.declared.items.Placed.{Placed}
pub use Rattle.tta_ops.specs.Set.{stated}
pub use Rattle.tta_ops.specs.Units.{Units}
pub use Rattle.tta_ops.specs.declared.OpId.{OpId}
pub use Rattle.tta_optim.specs.declared.together.Passed.{Passed}
pub use Rattle.tta_pretty.specs.Printed.{Words, line_text, proc_name, rel_name, step_line}
pub use Rattle.tta_program.specs.Program.{Program}
pub use Rattle.tta_program.specs.declared.operand.Rel.{Rel}
pub use Rattle.tta_program.specs.declared.program.Proc.{Proc}
pub use Rattle.tta_program.specs.declared.step.Step.{Step}
pub use Rattle.tta_lir.specs.declared.code.Exit.{Exit}
pub use Rattle.tta_lir.specs.declared.code.Place.{Place}
pub use Rattle.tta_lir.specs.declared.code.Place.TheVariants.{Frame}
pub use Rattle.tta_lir.specs.declared.code.RBlock.{RBlock}
pub use Rattle.tta_lir.specs.declared.code.RSrc.{RSrc}
pub use Rattle.tta_lir.specs.declared.code.RSrc.TheVariants.{At, Word}
pub use Rattle.tta_lir.specs.declared.code.RStep.{RStep}
