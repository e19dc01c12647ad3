-- What the definitions and lemmas of this crate cite of other crates, passed on from one place. Declares nothing.
pub use Rattle.tta_arch.specs.Effects.{KeptImm, KeptOperand, KeptPort, KeptRa, KeptReg}
pub use Rattle.tta_arch.specs.Fields.{numbers}
pub use Rattle.tta_arch.specs.Machine.{Machine}
pub use Rattle.tta_arch.specs.declared.ends.Source.{Source}
pub use Rattle.tta_arch.specs.declared.parts.File.{File}
pub use Rattle.tta_arch.specs.declared.parts.ImmUnit.{ImmUnit}
pub use Rattle.tta_arch.specs.declared.parts.Op.TheVariants.{Out, Take}
pub use Rattle.tta_arch.specs.declared.parts.Template.{Template}
pub use Rattle.tta_circuit.specs.Circuit.{Circuit, Const, Either, Equal, Not, Select, Signal}
pub use Rattle.tta_code.specs.Whole.{Whole}
pub use Rattle.tta_hardware.specs.Chains.{any_of}
pub use Rattle.tta_hardware.specs.Hardware.{register_names}
pub use Rattle.tta_hardware.specs.Signals.{Clashes, Expression, FaultNow, Fetched, Goes, HasWord, IsPast, IsReset, LacksOperand, LacksPort, LacksRegister, LongOf, NextPc, Pc, PutWord, Puts, Starts, Store, Watch, Watches}
pub use Rattle.tta_hardware.specs.Wires.{never, ops_of, reached}
pub use Rattle.tta_names.specs.Names.{names_of, text_of, watch_name}
pub use Rattle.tta_ops.specs.Units.{Units}
pub use Rattle.tta_rtl.specs.Kept.{has_template}
pub use Rattle.tta_rtl.specs.Module.{common_ports, core_text, first_words, in_ports, offers, out_ports}
pub use Rattle.tta_rtl.specs.Texts.{choice_start, register_line, registers_text, wires_text}
pub use Rattle.tta_rtl.specs.declared.rom.Rom.{Rom}
pub use Rattle.tta_trap.specs.Memory.{watch_next, watch_register, watch_registers}
pub use Rattle.tta_trap.specs.Pins.{trap_in_ready, trap_out_valid}
pub use Rattle.tta_trap.specs.Trap.{trap_circuit, trap_made, trap_wire}
pub use Rattle.tta_trap.specs.Watches.{fault_now, is_outside, jumps_again, port_lacks, register_lacks, watch_made}
pub use Rattle.tta_verilog.specs.Circuits.{register_text, wire_text}
unfoldable pub use Rattle.tta_verilog.specs.Circuits.{wire_line}
unfoldable pub use Rattle.tta_verilog.specs.Expressions.{constant}
