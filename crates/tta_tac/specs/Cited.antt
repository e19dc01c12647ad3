-- What the definitions and lemmas of this crate cite of other crates, passed on from one place. Declares nothing.
unfoldable pub use Rattle.tta_ops.specs.Reserved.{is_reserved}
pub use Rattle.tta_ops.specs.Set.{stated}
pub use Rattle.tta_ops.specs.Units.{Units, named}
pub use Rattle.tta_ops.specs.declared.OpId.{OpId}
pub use Rattle.tta_program.specs.Over.{StandsOver, has_test, is_over, test_name}
pub use Rattle.tta_program.specs.Program.{Program}
pub use Rattle.tta_program.specs.Rules.{ByCall, ByMore, IsProc, IsProgram, Reaches, are_apart, calls, calls_proc, ends_once, is_call, is_datum, is_src}
pub use Rattle.tta_program.specs.declared.operand.Rel.{Rel}
pub use Rattle.tta_program.specs.declared.operand.Rel.TheVariants.{Eq, Ge, Geu, Lt, Ltu, Ne}
pub use Rattle.tta_program.specs.declared.operand.Src.{Src}
pub use Rattle.tta_program.specs.declared.operand.Src.TheVariants.{Var}
pub use Rattle.tta_program.specs.declared.program.DataLine.{DataLine}
pub use Rattle.tta_program.specs.declared.program.Proc.{Proc}
pub use Rattle.tta_program.specs.declared.step.Step.{Step}
pub use Rattle.tta_program.specs.declared.step.Step.TheVariants.{End, Invoke}
pub use Rattle.tta_parse.specs.Lines.{Lexeme, Line, plain, texts}
unfoldable pub use Rattle.tta_parse.specs.Lines.{lines_of}
pub use Rattle.tta_parse.specs.Names.{Declared, named_in}
pub use Rattle.tta_parse.specs.Steps.{at_line, only_if, or_refuse, refuse_if}
pub use Rattle.tta_parse.specs.Taken.{Takes}
pub use Rattle.tta_parse.specs.Words.{constant_of, is_keyword, is_mark, is_name_kind, name_of, value_of}
pub use Rattle.tta_parse.specs.declared.line_error.LineError.{LineError}
unfoldable pub use Rattle.tta_text.specs.Numbers.{digits_of, negative_of, number_of, value_below}
unfoldable pub use Rattle.tta_text.specs.Tokens.{mark_piece, negative_piece, number_piece, piece_at, tokens_from, tokens_of}
