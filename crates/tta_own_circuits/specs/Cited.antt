-- What the definitions and lemmas of this crate cite of other crates, passed on from one place. Declares nothing.
pub use Rattle.tta_load.specs.Ends.{TextEnds}
pub use Rattle.tta_load.specs.Held.{no_memory}
pub use Rattle.tta_load.specs.declared.status.Status.{Status}
pub use Rattle.tta_op_circuits.specs.Worked.{Makes, Worked}
pub use Rattle.tta_ops.specs.Unit.{AreDifferent}
pub use Rattle.tta_ports.specs.Output.{NothingOutput, Output}
unfoldable pub use Rattle.tta_rtl.specs.Functions.{called_text, function_head, own_text}
pub use Rattle.tta_rtl.specs.Variables.{before_word, port_names}
pub use Rattle.tta_verilog.specs.Expressions.{expression}
