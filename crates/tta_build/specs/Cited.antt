-- What the definitions and lemmas of this crate cite of other crates, passed on from one place. Declares nothing.
pub use Rattle.tta_refines.specs.Agrees.{Agrees, AgreesAt, program_at}
pub use Rattle.tta_alloc.specs.Allotted.{SlotsAsScanned}
pub use Rattle.tta_alloc.specs.Homes.{IsScan}
pub use Rattle.tta_alloc.specs.Turns.{AreInTurn}
pub use Rattle.tta_alloc.specs.declared.homes.Homes.{Homes}
pub use Rattle.tta_arch.specs.Effects.{first_some, or_else}
pub use Rattle.tta_arch.specs.Joins.{has_bit}
pub use Rattle.tta_arch.specs.Machine.{Machine}
pub use Rattle.tta_arch.specs.Over.{StandsOver}
pub use Rattle.tta_arch.specs.Rules.{IsMachine, is_file}
pub use Rattle.tta_arch.specs.declared.parts.File.{File}
pub use Rattle.tta_arch.specs.declared.parts.Op.{Op}
pub use Rattle.tta_arch.specs.declared.parts.Socket.{Socket}
pub use Rattle.tta_code.specs.Legal.{IsLegalCode, IsLegalWhole}
pub use Rattle.tta_code.specs.Whole.{Whole, fits, laid_by, rises, rises_from}
pub use Rattle.tta_code.specs.declared.code.Code.{Code}
pub use Rattle.tta_code.specs.declared.whole.Datum.{Datum}
pub use Rattle.tta_compiler_laws.specs.Compiler.{AreStandIns, IsPair, optimised, raw}
pub use Rattle.tta_compiler_laws.specs.Direct.{constants_of, is_brought, is_constant_or_halt, is_direct, is_direct_proc, list_of_direct}
pub use Rattle.tta_compiler_laws.specs.Linking.{AreFirstFits, AreRespected}
pub use Rattle.tta_compiler_laws.specs.Needs.{are_offered, first_failing, first_unoffered, is_served, need_of, unoffered_in}
pub use Rattle.tta_compiler_laws.specs.Packed.{IsLength, IsPacked, IsPlan}
pub use Rattle.tta_compiler_laws.specs.Planned.{HasForms}
pub use Rattle.tta_compiler_laws.specs.Room.{AreRoomy, room_on}
pub use Rattle.tta_connect.specs.Coverage.{IsChoice, call_if, call_in, failed_rule, homes_from, homes_of, hub_of, is_home_file, is_usable_at, offered, offered_by, registers_from}
pub use Rattle.tta_connect.specs.declared.choice.Choice.{Choice}
pub use Rattle.tta_flow.specs.Blocks.{IsFlow}
pub use Rattle.tta_flow.specs.Live.{IsLive}
pub use Rattle.tta_flow.specs.declared.flow.Block.{Block}
pub use Rattle.tta_flow.specs.declared.live.Live.{Live}
pub use Rattle.tta_ifconv.specs.Converted.{Converted, IsConverted}
pub use Rattle.tta_ifconv.specs.Statement.{IsAlike, RunAlike, has_ended}
pub use Rattle.tta_ifconv.specs.Triangles.{becomes, is_dropped, is_triangle, opposite, place, renumbered}
pub use Rattle.tta_link.specs.Blocks.{AreBlocks, total_length}
pub use Rattle.tta_link.specs.Linked.{IsLinked}
pub use Rattle.tta_list.specs.Laid.{Laid, over}
pub use Rattle.tta_list.specs.Legs.{AllPairs}
pub use Rattle.tta_list.specs.Prefix.{IsPrefixOf}
pub use Rattle.tta_lower.specs.LoweringInput.{known_by}
pub use Rattle.tta_lower.specs.Law.{IsKnown}
pub use Rattle.tta_lower.specs.Lower.{lowered, parts}
pub use Rattle.tta_lower.specs.Statement.{IsCause}
pub use Rattle.tta_lower.specs.declared.error.LowerError.{LowerError}
pub use Rattle.tta_moves.specs.Bounds.{Respects}
pub use Rattle.tta_moves.specs.FirstFit.{IsFirstFit}
pub use Rattle.tta_moves.specs.Slots.{is_list}
pub use Rattle.tta_moves.specs.declared.items.BlockList.{BlockList}
pub use Rattle.tta_moves.specs.declared.items.Item.{Item}
pub use Rattle.tta_moves.specs.declared.items.Placed.{Placed}
pub use Rattle.tta_ops.specs.Set.{stated}
pub use Rattle.tta_ops.specs.Units.{Units}
pub use Rattle.tta_optim.specs.Kept.{IsEquivalent}
pub use Rattle.tta_optim.specs.Passed.{IsPassed}
pub use Rattle.tta_program.specs.Direct.{alone, only_constants, puts}
pub use Rattle.tta_program.specs.Program.{Program, data_of, datum_of, first_outside, step_count}
pub use Rattle.tta_program.specs.Rules.{IsProc, IsProgram, are_apart, is_datum, is_end}
pub use Rattle.tta_program.specs.Sequential.{seq, start}
pub use Rattle.tta_program.specs.Sizes.{arg_count, frame_need, var_count}
pub use Rattle.tta_program.specs.declared.operand.Rel.{Rel}
pub use Rattle.tta_program.specs.declared.operand.Rel.TheVariants.{Eq, Ge, Geu, Lt, Ltu, Ne}
pub use Rattle.tta_program.specs.declared.operand.Src.TheVariants.{Var, Word}
pub use Rattle.tta_program.specs.declared.program.DataLine.{DataLine}
pub use Rattle.tta_program.specs.declared.program.Proc.{Proc}
pub use Rattle.tta_program.specs.declared.step.Step.{Step}
pub use Rattle.tta_program.specs.declared.step.Step.TheVariants.{Apply, Copy, End, Goto, Halt, If, Invoke, Load, Put, Return, Store, Take, When}
pub use Rattle.tta_lir.specs.Direct.{one_block}
pub use Rattle.tta_lir.specs.declared.code.Rir.{Rir}
pub use Rattle.tta_sched.specs.Room.{HasRoom, longest}
pub use Rattle.tta_select.specs.Direct.{direct_list, out_of}
pub use Rattle.tta_select.specs.Needs.{fits_block, is_offered}
pub use Rattle.tta_select.specs.Select.{selected, test_op}
