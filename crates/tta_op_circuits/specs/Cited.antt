-- What the definitions and lemmas of this crate cite of other crates, passed on from one place. Declares nothing.
pub use Rattle.tta_circuit.specs.Circuit.{Apply, Below, BitAnd, BitOr, BitXor, Both, Const, Either, Equal, Expr, Join, Left, Minus, Not, Plus, Read, Right, Select, Signal, Slice, Times, Wire}
pub use Rattle.tta_circuit.specs.Laws.{AreMadeBy, Solves, TellsApart}
pub use Rattle.tta_circuit.specs.Meaning.{bit, is_set, settle, value}
pub use Rattle.tta_circuit.specs.Order.{is_ordered}
pub use Rattle.tta_circuit.specs.Plain.{is_plain}
pub use Rattle.tta_circuit.specs.Widths.{is_sized, width_of}
pub use Rattle.tta_ops.specs.Arithmetic.{arith, divide}
pub use Rattle.tta_ops.specs.Bits.{logic, shift, shifted_with_sign}
pub use Rattle.tta_ops.specs.Comparison.{compare, lifted, truth}
pub use Rattle.tta_ops.specs.Operation.{Operation}
pub use Rattle.tta_ops.specs.Units.{Units}
