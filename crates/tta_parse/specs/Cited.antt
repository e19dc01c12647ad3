-- What the definitions and lemmas of this crate cite of other crates, passed on from one place. Declares nothing.
pub use Rattle.tta_text.specs.Bytes.{is_newline, is_word_byte}
pub use Rattle.tta_text.specs.Covers.{Follow, IsToken, is_open, last_end, newlines}
unfoldable pub use Rattle.tta_text.specs.Numbers.{negative_of, number_of}
pub use Rattle.tta_text.specs.Tokens.{token}
unfoldable pub use Rattle.tta_text.specs.Tokens.{mark_piece, piece_at, tokens_from, tokens_of}
pub use Rattle.tta_text.specs.Words.{first_is, is_letter, is_name, is_of_kind, is_run}
pub use Rattle.tta_text.specs.declared.lexeme.Kind.{Kind}
pub use Rattle.tta_text.specs.declared.lexeme.Kind.TheVariants.{Bad, Eol, Mark, Name, Negative, Number}
pub use Rattle.tta_text.specs.declared.lexeme.Token.{Token}
