-- What the definitions and lemmas of this crate cite of other crates, passed on from one place. Declares nothing.
pub use Rattle.tta_arch.specs.Effects.{KeptImm, KeptOperand, KeptPort, KeptReg, has_result}
pub use Rattle.tta_arch.specs.Fields.{numbers}
pub use Rattle.tta_arch.specs.Machine.{Machine}
pub use Rattle.tta_arch.specs.declared.parts.Op.{Op}
pub use Rattle.tta_arch.specs.declared.parts.Op.TheVariants.{Out, Set, Take}
pub use Rattle.tta_arch.specs.declared.parts.UnitOp.{UnitOp}
pub use Rattle.tta_boxed.specs.Boxed.{box_inputs, box_registers, boxed, boxed_register, from_register, is_left, kept_result, left_ops, op_registers, shown}
pub use Rattle.tta_boxed.specs.Theorem.{whole as circuit_for}
pub use Rattle.tta_circuit.specs.Circuit.{Circuit, Signal}
pub use Rattle.tta_code.specs.Whole.{Whole}
pub use Rattle.tta_disasm.specs.Canonical.{unit_name}
unfoldable pub use Rattle.tta_divider_rtl.specs.Texts.{divider_text}
pub use Rattle.tta_hardware.specs.Hardware.{circuit_with, code_words, register_names, unit_registers, wire_names}
pub use Rattle.tta_hardware.specs.Registers.{register}
pub use Rattle.tta_hardware.specs.Signals.{Boxes, Due, Expression, IsFrom, Keeps, Operand, Shows, Starts, Store, Trigger, Watch}
pub use Rattle.tta_hardware.specs.Wires.{longest, nothing}
pub use Rattle.tta_names.specs.Names.{box_name, counted, names_of, place_name, signal_name, text_of}
pub use Rattle.tta_ops.specs.Units.{Units}
pub use Rattle.tta_rtl.specs.Functions.{has_number, is_standard, operation_text}
pub use Rattle.tta_rtl.specs.Kept.{fixed, registers_of_file, registers_of_imm, underways}
pub use Rattle.tta_rtl.specs.Module.{first_words, memories_text, offers}
pub use Rattle.tta_rtl.specs.Texts.{choice_start, due_text, load_text, register_line, register_of, registers_text, wires_text}
pub use Rattle.tta_rtl.specs.declared.rom.Rom.{Rom}
pub use Rattle.tta_trap.specs.Memory.{watch_register, watch_registers}
pub use Rattle.tta_trap.specs.Trap.{trap_wires, trap_with}
pub use Rattle.tta_trap_rtl.specs.Texts.{trap_wires_text, watches_text}
pub use Rattle.tta_verilog.specs.Circuits.{register_text, store_text, wire_text}
unfoldable pub use Rattle.tta_verilog.specs.Circuits.{range}
