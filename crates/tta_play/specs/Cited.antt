-- What the definitions and lemmas of this crate cite of other crates, passed on from one place. Declares nothing.
pub use Rattle.tta_arch.specs.Effects.{Brought, Calls, Halts, Jumps, KeptImm, KeptOperand, KeptRa, KeptReg, Kind, Start, Written, bring, control_of, first_some, kept, long_effect, or_else, put_out, start_of, store_data, store_frame, take_in, write_of}
pub use Rattle.tta_arch.specs.Machine.{Machine}
pub use Rattle.tta_arch.specs.Rules.{IsMachine, is_imm}
pub use Rattle.tta_arch.specs.declared.ends.Dest.{Dest}
pub use Rattle.tta_arch.specs.declared.parts.File.{File}
pub use Rattle.tta_arch.specs.declared.parts.ImmUnit.{ImmUnit}
pub use Rattle.tta_arch.specs.declared.parts.Socket.{Socket}
pub use Rattle.tta_arch.specs.declared.parts.Template.{Template}
pub use Rattle.tta_disasm.specs.Canonical.{imm_name, place_text}
unfoldable pub use Rattle.tta_disasm.specs.Canonical.{instruction_text}
pub use Rattle.tta_code.specs.Cycle.{Outcome, Pending, Running, State, acts, carry_out, effect_of, effects_of, fault_of, lands, long_effects, next_of, or_fault, or_wait, pending_after, port, read_source, result_of, takes_effect, waits}
unfoldable pub use Rattle.tta_code.specs.Cycle.{next}
pub use Rattle.tta_code.specs.Results.{due_at}
pub use Rattle.tta_code.specs.declared.code.Code.{Code}
pub use Rattle.tta_code.specs.declared.code.Instruction.{Instruction}
pub use Rattle.tta_code.specs.declared.code.Long.{Long}
pub use Rattle.tta_code.specs.declared.code.Move.{Move}
pub use Rattle.tta_list.specs.Input.{left}
pub use Rattle.tta_list.specs.Iterate.{iterate}
pub use Rattle.tta_ops.specs.Set.{stated}
pub use Rattle.tta_ops.specs.Units.{Units}
unfoldable pub use Rattle.tta_pages.specs.Pages.{run_head, run_tail}
pub use Rattle.tta_pages.specs.Room.{Fits, fitting, within}
unfoldable pub use Rattle.tta_pages.specs.RunPieces.{run_middle_text}
pub use Rattle.tta_places.specs.Carried.{coming, slots_of}
pub use Rattle.tta_profile.specs.Counts.{is_made}
pub use Rattle.tta_profile.specs.Feed.{went_on}
pub use Rattle.tta_sim.specs.Held.{GoesTo, Held, IsAnswer, IsRunOf, Stands, cycles_of, is_halted}
pub use Rattle.tta_sim.specs.declared.cycle_step.CycleStep.TheVariants.{Ran}
pub use Rattle.tta_sim.specs.declared.cycle_step.CycleStep.{CycleStep}
