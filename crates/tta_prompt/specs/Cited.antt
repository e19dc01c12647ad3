-- What the definitions and lemmas of this crate cite of other crates, passed on from one place. Declares nothing.
pub use Rattle.tta_arch.specs.Effects.{KeptReg, kept}
pub use Rattle.tta_arch.specs.Machine.{Machine}
pub use Rattle.tta_arch.specs.declared.parts.File.{File}
pub use Rattle.tta_disasm.specs.Canonical.{place_text}
unfoldable pub use Rattle.tta_disasm.specs.Canonical.{instruction_text}
pub use Rattle.tta_code.specs.Cycle.{State}
pub use Rattle.tta_debug.specs.Debugged.{Debugged, Done, command, goes_on, not_there, saying_first, session, texts}
pub use Rattle.tta_debug.specs.Scripts.{line_goes, line_leaves, line_says, line_text}
pub use Rattle.tta_debug.specs.Sessions.{Follows, IsStopped, PutsLine, Session'}
unfoldable pub use Rattle.tta_debug.specs.Words.{words_of}
pub use Rattle.tta_stdin.specs.Come.{Come, Comes, IfLine, IsFailed, with_end, with_lines, with_overlong}
pub use Rattle.tta_stdin.specs.declared.error.LineError.{LineError}
pub use Rattle.tta_ops.specs.Set.{stated}
pub use Rattle.tta_ops.specs.Units.{Units}
pub use Rattle.tta_ports.specs.Output.{IsCut, IsPut, NothingOutput, Output}
pub use Rattle.tta_ports.specs.declared.error.Failed.{Failed}
pub use Rattle.tta_report.specs.Replies.{reply_text}
pub use Rattle.tta_parse.specs.Lines.{Lexeme, Line}
pub use Rattle.tta_parse.specs.Words.{is_keyword, value_of}
pub use Rattle.tta_sim.specs.Held.{IsRunOf, Stands}
