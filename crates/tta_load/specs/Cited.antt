-- What the definitions and lemmas of this crate cite of other crates, passed on from one place. Declares nothing.
pub use Rattle.tta_arch.specs.Machine.{Machine}
unfoldable pub use Rattle.tta_asm.specs.Assembly.{assembled}
pub use Rattle.tta_asm.specs.declared.refusal.AsmRefusal.{AsmRefusal}
pub use Rattle.tta_code.specs.Whole.{Whole}
pub use Rattle.tta_image.specs.Image.{Image}
unfoldable pub use Rattle.tta_image.specs.Reading.{decoded_image}
pub use Rattle.tta_image.specs.declared.refusal.ImageError.TheVariants.{Refused}
pub use Rattle.tta_input.specs.Input.{stream_of}
unfoldable pub use Rattle.tta_input.specs.Input.{input_of}
unfoldable pub use Rattle.tta_machine.specs.Text.{machine_of_text}
pub use Rattle.tta_ops.specs.Set.{stated}
pub use Rattle.tta_ops.specs.Units.{Units}
pub use Rattle.tta_ports.specs.Faults.{Rose}
pub use Rattle.tta_ports.specs.Files.{Holds, HoldsMore, IsPartlyWritten, written}
pub use Rattle.tta_ports.specs.Output.{IsCut, IsPut, NothingOutput, Output}
pub use Rattle.tta_ports.specs.Store.{Store}
pub use Rattle.tta_ports.specs.World.{IsUntouched, World}
pub use Rattle.tta_ports.specs.declared.fault.Fault.TheVariants.{Read, Write}
pub use Rattle.tta_program.specs.Program.{Program, first_outside}
pub use Rattle.tta_tac.specs.Text.{IsRefusedAt, ProgramText}
unfoldable pub use Rattle.tta_text.specs.Numbers.{digits_of}
