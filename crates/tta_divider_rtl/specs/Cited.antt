-- What the definitions and lemmas of this crate cite of other crates, passed on from one place. Declares nothing.
pub use Rattle.tta_circuit.specs.Circuit.{Expr, Signal}
pub use Rattle.tta_divider.specs.Divider.{Digit, Digits, Divisor, Enable, First, Part, Rest, Second, Shown, digits_before, divider, divisor_before, kept, made_by, rest_before, shown_of, stage_cut, stage_registers, stage_wires}
pub use Rattle.tta_divider.specs.declared.kind.Kind.{Kind}
pub use Rattle.tta_op_circuits.specs.Dividing.{digit_wires, wire}
unfoldable pub use Rattle.tta_op_circuits.specs.Dividing.{cut}
pub use Rattle.tta_verilog.specs.Circuits.{parts_text, range, register_text, wire_line, wire_text}
pub use Rattle.tta_verilog.specs.Expressions.{Names, expression}
