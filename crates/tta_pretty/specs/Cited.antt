-- What the definitions and lemmas of this crate cite of other crates, passed on from one place. Declares nothing.
pub use Rattle.tta_ifconv.specs.Triangles.{is_target}
pub use Rattle.tta_ops.specs.Set.{stated}
pub use Rattle.tta_ops.specs.Units.{Units}
pub use Rattle.tta_ops.specs.declared.OpId.{OpId}
pub use Rattle.tta_program.specs.Program.{Program}
pub use Rattle.tta_program.specs.Rules.{IsProgram}
pub use Rattle.tta_program.specs.declared.operand.Rel.{Rel}
pub use Rattle.tta_program.specs.declared.operand.Rel.TheVariants.{Eq, Ge, Geu, Lt, Ltu, Ne}
pub use Rattle.tta_program.specs.declared.operand.Src.{Src}
pub use Rattle.tta_program.specs.declared.operand.Src.TheVariants.{Var, Word}
pub use Rattle.tta_program.specs.declared.program.DataLine.{DataLine}
pub use Rattle.tta_program.specs.declared.program.Proc.{Proc}
pub use Rattle.tta_program.specs.declared.step.Step.{Step}
pub use Rattle.tta_program.specs.declared.step.Step.TheVariants.{Apply, Copy, End, Goto, Halt, If, Invoke, Load, Put, Return, Store, Take, When}
pub use Rattle.tta_parse.specs.Lines.{Lexeme, Line}
pub use Rattle.tta_text.specs.declared.lexeme.Kind.TheVariants.{Mark, Name, Number}
