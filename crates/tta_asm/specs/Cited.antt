-- What the definitions and lemmas of this crate cite of other crates, passed on from one place. Declares nothing.
pub use Rattle.tta_arch.specs.Joins.{has_guard, has_socket, holds_word, is_dest_on, is_same, is_same_guard, is_source_on, joins, within}
pub use Rattle.tta_arch.specs.Legal.{Ends, all_slots}
unfoldable pub use Rattle.tta_arch.specs.Legal.{can_move}
pub use Rattle.tta_arch.specs.Machine.{Machine}
pub use Rattle.tta_arch.specs.Over.{StandsOver, is_named}
pub use Rattle.tta_arch.specs.Rules.{IsMachine, IsMachineName, are_different, is_bus, is_file, is_guard, is_imm, is_port_socket, is_socket, is_unit, is_unit_op, names_of, same_op}
pub use Rattle.tta_arch.specs.declared.ends.Dest.{Dest}
pub use Rattle.tta_arch.specs.declared.ends.GuardRef.{GuardRef}
pub use Rattle.tta_arch.specs.declared.ends.Source.{Source}
pub use Rattle.tta_arch.specs.declared.parts.Bus.{Bus}
pub use Rattle.tta_arch.specs.declared.parts.Guard.{Guard}
pub use Rattle.tta_arch.specs.declared.parts.ImmUnit.{ImmUnit}
pub use Rattle.tta_arch.specs.declared.parts.Op.{Op}
pub use Rattle.tta_arch.specs.declared.parts.Op.TheVariants.{Ldf, Ldw, Out, Set, Stf, Stw, Take}
pub use Rattle.tta_arch.specs.declared.parts.UnitOp.{UnitOp}
pub use Rattle.tta_code.specs.Legal.{IsLegalCode, IsLegalWhole, ends_of, is_long}
unfoldable pub use Rattle.tta_code.specs.Legal.{is_legal}
pub use Rattle.tta_code.specs.Whole.{Whole, fits, rises, rises_from}
pub use Rattle.tta_code.specs.declared.code.Code.{Code}
pub use Rattle.tta_code.specs.declared.code.Instruction.{Instruction}
pub use Rattle.tta_code.specs.declared.code.Long.{Long}
pub use Rattle.tta_code.specs.declared.code.Move.{Move}
pub use Rattle.tta_code.specs.declared.whole.Datum.{Datum}
unfoldable pub use Rattle.tta_ops.specs.Reserved.{is_reserved}
pub use Rattle.tta_ops.specs.Set.{stated}
unfoldable pub use Rattle.tta_ops.specs.Stated.{stated_by}
pub use Rattle.tta_ops.specs.Units.{Units, named}
pub use Rattle.tta_ops.specs.declared.OpId.{OpId}
pub use Rattle.tta_ops.specs.declared.set.UnitSet.{UnitSet}
pub use Rattle.tta_parse.specs.Lines.{Lexeme, is_line_end, lexeme_of, plain}
pub use Rattle.tta_parse.specs.Names.{Declared, named_in}
pub use Rattle.tta_parse.specs.Steps.{only_if, or_refuse, refuse_if}
pub use Rattle.tta_parse.specs.Words.{constant_of, is_keyword, is_mark, name_of, value_of}
pub use Rattle.tta_text.specs.Bytes.{is_newline, is_word_byte}
unfoldable pub use Rattle.tta_text.specs.Numbers.{digits_of, negative_of, number_of, value_below}
unfoldable pub use Rattle.tta_text.specs.Tokens.{mark_piece, negative_piece, number_piece, piece_at, tokens_from, tokens_of}
pub use Rattle.tta_text.specs.Words.{first_is, is_letter, is_name, is_run}
pub use Rattle.tta_text.specs.declared.lexeme.Kind.TheVariants.{Eol, Mark, Name, Number}
pub use Rattle.tta_text.specs.declared.lexeme.Token.{Token}
