-- What the definitions and lemmas of this crate cite of other crates, passed on from one place. Declares nothing.
pub use Rattle.tta_arch.specs.Effects.{Brought, Calls, Effect, Halts, Jumps, KeptImm, KeptOperand, KeptRa, KeptReg, Kind, Place, Start, Written, bring, control_of, first_some, long_effect, moved, put_out, start_of, store_data, store_frame, take_in, target_of, write_of}
pub use Rattle.tta_arch.specs.Machine.{Machine}
pub use Rattle.tta_arch.specs.Rules.{IsMachine}
pub use Rattle.tta_arch.specs.declared.ends.Dest.{Dest}
pub use Rattle.tta_arch.specs.declared.parts.Template.{Template}
pub use Rattle.tta_code.specs.Cycle.{Pending, Running, State, acts, carry_out, effect_of, effects_of, fault_of, lands, long_effects, next_of, or_fault, or_wait, pending_after, read_source, result_of, takes_effect, waits}
unfoldable pub use Rattle.tta_code.specs.Cycle.{next}
pub use Rattle.tta_code.specs.Legal.{IsLegalCode}
unfoldable pub use Rattle.tta_code.specs.Legal.{is_legal}
pub use Rattle.tta_code.specs.declared.code.Code.{Code}
pub use Rattle.tta_code.specs.declared.code.Instruction.{Instruction}
pub use Rattle.tta_code.specs.declared.code.Long.{Long}
pub use Rattle.tta_code.specs.declared.code.Move.{Move}
pub use Rattle.tta_ops.specs.Units.{Units}
pub use Rattle.tta_sim.specs.Held.{Stands, is_halted}
pub use Rattle.tta_sim.specs.Moves.{IsPossible, is_askable, is_possible_slot, is_reachable, is_readable}
pub use Rattle.tta_sim.specs.Places.{HasWritten, is_place}
