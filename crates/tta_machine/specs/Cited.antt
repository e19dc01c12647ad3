-- What the definitions and lemmas of this crate cite of other crates, passed on from one place. Declares nothing.
pub use Rattle.tta_arch.specs.Effects.{has_result, op_at}
pub use Rattle.tta_arch.specs.Fields.{all_dests, all_sources, bus_width, dests_on, guard_width, numbers, short_width, sources_on, taken_width}
unfoldable pub use Rattle.tta_arch.specs.Fields.{width_for}
pub use Rattle.tta_arch.specs.Joins.{dest_socket, has_bit, has_socket, is_dest_on, is_same, is_source_on, source_socket}
pub use Rattle.tta_arch.specs.Machine.{Machine}
pub use Rattle.tta_arch.specs.Over.{StandsOver, is_named}
pub use Rattle.tta_arch.specs.Rules.{IsBusSet, IsMachine, IsMachineName, are_different, fits_kind, has_one_owner, is_bus, is_control, is_data_op, is_file, is_frame_op, is_from_to, is_guard, is_imm, is_port_socket, is_socket, is_stream_op, is_template, is_unit, is_unit_op, names_of, same_guard, same_op}
pub use Rattle.tta_arch.specs.declared.ends.Dest.{Dest}
pub use Rattle.tta_arch.specs.declared.ends.Source.{Source}
pub use Rattle.tta_arch.specs.declared.parts.Bus.{Bus}
pub use Rattle.tta_arch.specs.declared.parts.Control.{Control}
pub use Rattle.tta_arch.specs.declared.parts.File.{File}
pub use Rattle.tta_arch.specs.declared.parts.Guard.{Guard}
pub use Rattle.tta_arch.specs.declared.parts.ImmUnit.{ImmUnit}
pub use Rattle.tta_arch.specs.declared.parts.Op.{Op}
pub use Rattle.tta_arch.specs.declared.parts.Op.TheVariants.{Ldf, Ldw, Out, Set, Stf, Stw, Take}
pub use Rattle.tta_arch.specs.declared.parts.Socket.{Socket}
pub use Rattle.tta_arch.specs.declared.parts.Template.{Template}
pub use Rattle.tta_arch.specs.declared.parts.UnitOp.{UnitOp}
pub use Rattle.tta_ops.specs.Reserved.{AreFree}
unfoldable pub use Rattle.tta_ops.specs.Reserved.{is_reserved}
pub use Rattle.tta_ops.specs.Set.{stated}
pub use Rattle.tta_ops.specs.Units.{AreArities, AreDistinct, Units, first_at, named}
pub use Rattle.tta_ops.specs.declared.OpId.{OpId}
pub use Rattle.tta_parse.specs.Lines.{Lexeme, Line, plain, texts}
unfoldable pub use Rattle.tta_parse.specs.Lines.{lines_of}
pub use Rattle.tta_parse.specs.Names.{Declared, named_in}
pub use Rattle.tta_parse.specs.Steps.{at_line, only_if, or_refuse, refuse_if}
pub use Rattle.tta_parse.specs.Words.{is_keyword, is_mark, is_name_kind, name_of, value_of}
pub use Rattle.tta_parse.specs.declared.word.Word.{Word}
unfoldable pub use Rattle.tta_text.specs.Numbers.{digits_of, negative_of, number_of, value_below}
unfoldable pub use Rattle.tta_text.specs.Tokens.{mark_piece, negative_piece, number_piece, piece_at, tokens_from, tokens_of}
pub use Rattle.tta_text.specs.Words.{is_name}
pub use Rattle.tta_text.specs.declared.lexeme.Kind.TheVariants.{Name}
