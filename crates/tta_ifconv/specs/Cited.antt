-- What the definitions and lemmas of this crate cite of other crates, passed on from one place. Declares nothing.
pub use Rattle.tta_list.specs.Iterate.{iterate}
pub use Rattle.tta_list.specs.Legs.{AllPairs}
pub use Rattle.tta_list.specs.Prefix.{IsPrefixOf}
pub use Rattle.tta_ops.specs.Units.{Units}
pub use Rattle.tta_program.specs.Over.{StandsOver, has_test, is_over}
pub use Rattle.tta_program.specs.Program.{Program, step_count}
pub use Rattle.tta_program.specs.Rules.{ByCall, ByMore, IsProc, IsProgram, Reaches, are_apart, calls, calls_proc, ends_once, is_call, is_datum, is_end, is_src, is_step}
pub use Rattle.tta_program.specs.Sequential.{Frame, Halted, Outcome, Running, State, Waiting, assigns, carry_out, enter, go_on, goes_through, goes_to, holds, is_odd, next_of, operand, seq, start, step_at, take_value, takes, waits}
unfoldable pub use Rattle.tta_program.specs.Sequential.{next}
pub use Rattle.tta_program.specs.Sizes.{arg_count, args_in, var_count}
pub use Rattle.tta_program.specs.declared.operand.Rel.{Rel}
pub use Rattle.tta_program.specs.declared.operand.Rel.TheVariants.{Eq, Ge, Geu, Lt, Ltu, Ne}
pub use Rattle.tta_program.specs.declared.operand.Src.{Src}
pub use Rattle.tta_program.specs.declared.operand.Src.TheVariants.{Var, Word}
pub use Rattle.tta_program.specs.declared.program.Proc.{Proc}
pub use Rattle.tta_program.specs.declared.step.Step.{Step}
pub use Rattle.tta_program.specs.declared.step.Step.TheVariants.{Apply, Copy, End, Goto, Halt, If, Invoke, Load, Put, Return, Store, Take, When}
