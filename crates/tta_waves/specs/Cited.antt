-- What the definitions and lemmas of this crate cite of other crates, passed on from one place. Declares nothing.
pub use Rattle.tta_arch.specs.Effects.{KeptImm, KeptOperand, KeptRa, KeptReg, is_active, kept, width_of}
pub use Rattle.tta_arch.specs.Machine.{Machine}
pub use Rattle.tta_arch.specs.Rules.{IsMachine, is_bus, is_file, is_imm, is_unit}
pub use Rattle.tta_arch.specs.declared.ends.Dest.{Dest}
pub use Rattle.tta_arch.specs.declared.parts.Bus.{Bus}
pub use Rattle.tta_arch.specs.declared.parts.File.{File}
pub use Rattle.tta_arch.specs.declared.parts.ImmUnit.{ImmUnit}
pub use Rattle.tta_arch.specs.declared.parts.Socket.{Socket}
pub use Rattle.tta_code.specs.Cycle.{Outcome, Running, State, effect_of, next_of, port, read_source}
unfoldable pub use Rattle.tta_code.specs.Cycle.{next}
pub use Rattle.tta_code.specs.declared.code.Code.{Code}
pub use Rattle.tta_code.specs.declared.code.Instruction.{Instruction}
pub use Rattle.tta_code.specs.declared.code.Move.{Move}
pub use Rattle.tta_hardware.specs.Signals.{Keeps, Pc, Port, Word}
pub use Rattle.tta_list.specs.Input.{left}
pub use Rattle.tta_names.specs.Names.{signal_name}
pub use Rattle.tta_ops.specs.Set.{stated}
pub use Rattle.tta_ops.specs.Units.{Units}
pub use Rattle.tta_places.specs.Carried.{carried, coming, slots_of}
pub use Rattle.tta_places.specs.Writes.{cycle_writes, writes_in}
pub use Rattle.tta_places.specs.Written.{is_slot_written_to}
pub use Rattle.tta_profile.specs.Counts.{is_made}
pub use Rattle.tta_profile.specs.Feed.{went_on}
pub use Rattle.tta_sim.specs.Held.{GoesTo, Held, IsAnswer, IsRunOf, Stands, cycles_of, is_halted}
pub use Rattle.tta_sim.specs.Places.{HasWritten, is_place}
pub use Rattle.tta_sim.specs.declared.cycle_step.CycleStep.{CycleStep}
pub use Rattle.tta_sim.specs.declared.cycle_step.CycleStep.TheVariants.{Ran}
