-- What the definitions and lemmas of this crate cite of other crates, passed on from one place. Declares nothing.
pub use Rattle.tta_arch.specs.Effects.{Calls, Halts, Jumps, KeptReg, Kind, bring, control_of, first_some, kept, start_of, write_of}
pub use Rattle.tta_arch.specs.Machine.{Machine}
pub use Rattle.tta_arch.specs.Rules.{IsMachine, IsMachineName}
pub use Rattle.tta_arch.specs.declared.parts.File.{File}
pub use Rattle.tta_code.specs.Cycle.{Fault, Halted, Outcome, Pending, Result', Running, State, Waiting, acts, carry_out, effects_of, fault_of, lands, next_of, or_fault, or_wait, pending_after, read_source, start, takes_effect, waits}
unfoldable pub use Rattle.tta_code.specs.Cycle.{next}
pub use Rattle.tta_code.specs.Results.{due_at}
pub use Rattle.tta_code.specs.declared.code.Code.{Code}
pub use Rattle.tta_code.specs.declared.code.Instruction.{Instruction}
pub use Rattle.tta_list.specs.Input.{left}
pub use Rattle.tta_list.specs.Iterate.{iterate}
pub use Rattle.tta_ops.specs.Set.{stated}
pub use Rattle.tta_ops.specs.Units.{Units}
pub use Rattle.tta_ports.specs.Faults.{Rose}
pub use Rattle.tta_ports.specs.Output.{IsCut, IsPut, NothingOutput, Output}
pub use Rattle.tta_ports.specs.declared.error.Failed.{Failed}
pub use Rattle.tta_report.specs.Replies.{due_text, reply_text}
pub use Rattle.tta_report.specs.declared.reply.Reply.{Reply}
pub use Rattle.tta_parse.specs.Lines.{Lexeme, Line, is_line_end, lexeme_of}
pub use Rattle.tta_parse.specs.Words.{is_keyword, name_of, value_of}
pub use Rattle.tta_sim.specs.Held.{Held, IsRunOf, Stands}
unfoldable pub use Rattle.tta_text.specs.Numbers.{digits_of, negative_of, number_of, value_below}
pub use Rattle.tta_text.specs.Reading.{Reading}
unfoldable pub use Rattle.tta_text.specs.Tokens.{mark_piece, negative_piece, number_piece, piece_at, tokens_from, tokens_of}
pub use Rattle.tta_text.specs.declared.lexeme.Token.{Token}
