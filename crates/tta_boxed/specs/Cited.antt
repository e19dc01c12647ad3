-- What the definitions and lemmas of this crate cite of other crates, passed on from one place. Declares nothing.
pub use Rattle.tta_arch.specs.Effects.{KeptPort, op_at}
pub use Rattle.tta_arch.specs.Machine.{Machine}
pub use Rattle.tta_arch.specs.Rules.{IsMachine}
pub use Rattle.tta_arch.specs.declared.parts.Op.{Op}
pub use Rattle.tta_arch.specs.declared.parts.Op.TheVariants.{Set}
pub use Rattle.tta_arch.specs.declared.parts.UnitOp.{UnitOp}
pub use Rattle.tta_circuit.specs.Circuit.{Circuit, Const, Either, Register, Select, Signal}
pub use Rattle.tta_circuit.specs.Closed.{IsClosed, are_apart, signals_of}
pub use Rattle.tta_circuit.specs.Meaning.{is_set}
pub use Rattle.tta_circuit.specs.Modules.{Serves}
pub use Rattle.tta_circuit.specs.Order.{is_ordered}
pub use Rattle.tta_circuit.specs.Plain.{IsPlain}
pub use Rattle.tta_code.specs.Legal.{IsLegalCode}
pub use Rattle.tta_hardware.specs.Chains.{first_of}
pub use Rattle.tta_hardware.specs.Hardware.{circuit_of}
pub use Rattle.tta_hardware.specs.Order.{rank}
pub use Rattle.tta_hardware.specs.Runs.{cycles_after, held_after, put_after, signals_after, taken_after}
pub use Rattle.tta_hardware.specs.Signals.{Asks, Box, Boxes, Due, Expression, Goes, HasBegun, IsDue, IsFrom, IsReset, Keeps, Operand, Port, PutWord, Puts, Shows, Starts, Store, Trigger, same_signal}
pub use Rattle.tta_hardware.specs.Sized.{store_width}
pub use Rattle.tta_hardware.specs.Stands.{Hardware}
pub use Rattle.tta_hardware.specs.Wires.{begins, coming, fresh, is_coming, loads, longest, made, never, nothing, ops_of, result_of, timed}
pub use Rattle.tta_ops.specs.Units.{Units}
pub use Rattle.tta_trap.specs.Sized.{trap_rank, trap_signal_width}
pub use Rattle.tta_trap.specs.Trap.{trap_circuit}
