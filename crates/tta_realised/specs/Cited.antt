-- What the definitions and lemmas of this crate cite of other crates, passed on from one place. Declares nothing.
pub use Rattle.tta_refines.specs.Agrees.{Agrees, AgreesAt, IsGiven, WaitAlike, code_at, program_at}
pub use Rattle.tta_arch.specs.Machine.{Machine}
pub use Rattle.tta_arch.specs.Rules.{IsMachine}
pub use Rattle.tta_build.specs.Statement.{IsBuilt}
pub use Rattle.tta_circuit.specs.Circuit.{Circuit}
pub use Rattle.tta_circuit.specs.Meaning.{bit, is_set}
pub use Rattle.tta_code.specs.Cycle.{Fault, Halted, Outcome, Running, State, Waiting, start}
unfoldable pub use Rattle.tta_code.specs.Cycle.{next}
pub use Rattle.tta_code.specs.Legal.{IsLegalWhole}
pub use Rattle.tta_code.specs.Whole.{Whole, data_in}
pub use Rattle.tta_code.specs.declared.code.Code.{Code}
pub use Rattle.tta_hardware.specs.Hardware.{circuit_with, code_words}
pub use Rattle.tta_hardware.specs.Images.{ShowsRun}
pub use Rattle.tta_hardware.specs.Runs.{AreClocks, IsStill, cycles_at, held_at, put_at, signals_at, taken_at}
pub use Rattle.tta_hardware.specs.Signals.{Asks, Data, FaultNow, Gives, Goes, HasHalted, IsOffered, IsReady, IsReset, Offer, PutWord, Puts, Store, Watches}
pub use Rattle.tta_hardware.specs.Stands.{is_halted}
pub use Rattle.tta_hardware.specs.Theorem.{is_fault}
pub use Rattle.tta_hardware.specs.Words.{image_words}
pub use Rattle.tta_image.specs.Image.{Image}
pub use Rattle.tta_list.specs.Laid.{over}
pub use Rattle.tta_list.specs.Prefix.{IsPrefixOf}
pub use Rattle.tta_ops.specs.Units.{Units}
pub use Rattle.tta_program.specs.Program.{Program, step_count}
pub use Rattle.tta_trap.specs.Trap.{trap_with}
