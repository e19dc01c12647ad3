-- What the definitions and lemmas of this crate cite of other crates, passed on from one place. Declares nothing.
pub use Rattle.tta_list.specs.Input.{left}
pub use Rattle.tta_list.specs.Iterate.{iterate}
pub use Rattle.tta_ops.specs.Set.{stated}
pub use Rattle.tta_ops.specs.Units.{Units}
pub use Rattle.tta_program.specs.Program.{Program}
pub use Rattle.tta_program.specs.Rules.{ByCall, ByMore, IsProc, IsProgram, Reaches, calls_proc, ends_once, is_call, is_end, is_src, is_step}
pub use Rattle.tta_program.specs.Sequential.{Frame, Halted, Outcome, State, Waiting, assigns, carry_out, enter, goes_through, goes_to, holds, operand, step_at, take_value, takes, waits}
unfoldable pub use Rattle.tta_program.specs.Sequential.{next}
pub use Rattle.tta_program.specs.declared.operand.Src.{Src}
pub use Rattle.tta_program.specs.declared.operand.Src.TheVariants.{Var, Word}
pub use Rattle.tta_program.specs.declared.program.Proc.{Proc}
pub use Rattle.tta_program.specs.declared.step.Step.{Step}
pub use Rattle.tta_program.specs.declared.step.Step.TheVariants.{End, Halt, Invoke, Put, Return, Take}
