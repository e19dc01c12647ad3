-- What the definitions and lemmas of this crate cite of other crates, passed on from one place. Declares nothing.
pub use Rattle.tta_circuit.specs.Circuit.{Below, Const, Expr, Join, Left, Plus, Select, Signal, Slice}
pub use Rattle.tta_circuit.specs.Laws.{Solves}
pub use Rattle.tta_circuit.specs.Meaning.{bit, is_set, value}
pub use Rattle.tta_op_circuits.specs.Operations.{a, amount, b, lifted_word, with_wire}
pub use Rattle.tta_op_circuits.specs.Worked.{First, Inner, Makes, Port, Second, Worked, plain}
unfoldable pub use Rattle.tta_op_circuits.specs.Worked.{is_in_order}
pub use Rattle.tta_ops.specs.Operation.{Operation, no_operation, operation}
pub use Rattle.tta_ops.specs.Units.{Units}
pub use Rattle.tta_rtl.specs.Variables.{before_word, port_names}
pub use Rattle.tta_verilog.specs.Expressions.{expression}
