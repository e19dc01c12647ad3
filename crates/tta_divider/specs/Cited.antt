-- What the definitions and lemmas of this crate cite of other crates, passed on from one place. Declares nothing.
pub use Rattle.tta_circuit.specs.Circuit.{Below, Circuit, Const, Expr, Join, Minus, Not, Register, Select, Signal, Slice, Wire}
pub use Rattle.tta_circuit.specs.Closed.{IsClosed, are_apart, has_signal, reads_only, signals_of}
pub use Rattle.tta_circuit.specs.Laws.{AreMadeBy, Solves, TellsApart}
pub use Rattle.tta_circuit.specs.Meaning.{Held, given, held_from, is_set, powered, registered, settled, value}
pub use Rattle.tta_circuit.specs.Modules.{Serves, taken_in}
pub use Rattle.tta_circuit.specs.Order.{is_ordered, reads_below}
pub use Rattle.tta_circuit.specs.Plain.{IsPlain, IsWritten, IsWrittenRegister, IsWrittenWire, is_plain}
pub use Rattle.tta_circuit.specs.Widths.{is_sized}
pub use Rattle.tta_op_circuits.specs.Alone.{applies_nothing}
pub use Rattle.tta_op_circuits.specs.Dividing.{Cut, wire, with_zero}
unfoldable pub use Rattle.tta_op_circuits.specs.Dividing.{cut}
pub use Rattle.tta_op_circuits.specs.Division.{Partial, begun}
unfoldable pub use Rattle.tta_op_circuits.specs.Division.{with_digits}
pub use Rattle.tta_op_circuits.specs.Laws.{divided, held}
pub use Rattle.tta_op_circuits.specs.Operations.{digit_widths}
pub use Rattle.tta_ops.specs.Arithmetic.{divide}
pub use Rattle.tta_ops.specs.Units.{Units}
