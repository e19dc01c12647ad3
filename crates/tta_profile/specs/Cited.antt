-- What the definitions and lemmas of this crate cite of other crates, passed on from one place. Declares nothing.
pub use Rattle.tta_arch.specs.Effects.{Brought, Written, is_active, operand_word, start_of, target_of}
pub use Rattle.tta_arch.specs.Joins.{has_bit}
pub use Rattle.tta_arch.specs.Machine.{Machine}
pub use Rattle.tta_arch.specs.Rules.{IsMachine}
pub use Rattle.tta_arch.specs.declared.ends.Dest.{Dest}
pub use Rattle.tta_arch.specs.declared.parts.Bus.{Bus}
pub use Rattle.tta_arch.specs.declared.parts.Op.{Op}
pub use Rattle.tta_arch.specs.declared.parts.Op.TheVariants.{Ldf, Ldw, Out, Set, Stf, Stw, Take}
unfoldable pub use Rattle.tta_disasm.specs.Canonical.{instruction_text}
pub use Rattle.tta_code.specs.Cycle.{Running, State, carry_out, effect_of, next_of, read_source}
unfoldable pub use Rattle.tta_code.specs.Cycle.{next}
pub use Rattle.tta_code.specs.Legal.{IsLegalCode}
unfoldable pub use Rattle.tta_code.specs.Legal.{is_legal}
pub use Rattle.tta_code.specs.declared.code.Code.{Code}
pub use Rattle.tta_code.specs.declared.code.Instruction.{Instruction}
pub use Rattle.tta_code.specs.declared.code.Move.{Move}
pub use Rattle.tta_list.specs.Input.{left}
pub use Rattle.tta_list.specs.Iterate.{iterate}
pub use Rattle.tta_ops.specs.Set.{stated}
pub use Rattle.tta_ops.specs.Units.{Units}
pub use Rattle.tta_places.specs.Carried.{carried, coming, slots_of}
pub use Rattle.tta_places.specs.Writes.{writes_in}
pub use Rattle.tta_places.specs.Written.{is_slot_written_to}
pub use Rattle.tta_sim.specs.Held.{IsRunOf, Stands, is_halted}
pub use Rattle.tta_sim.specs.Moves.{IsPossible, is_possible_slot}
pub use Rattle.tta_sim.specs.Places.{HasWritten}
pub use Rattle.tta_sim.specs.declared.cycle_step.CycleStep.{CycleStep}
pub use Rattle.tta_sim.specs.declared.cycle_step.CycleStep.TheVariants.{Ran}
