-- What the definitions and lemmas of this crate cite of other crates, passed on from one place. Declares nothing.
pub use Rattle.tta_arch.specs.Fields.{all_dests, all_sources, bus_width, dest_code, dest_width, dests_on, guard_code, guard_width, guards_on, numbers, payload_width, same_dest, same_source, short_width, source_code, sources_on, taken_width, template_width, width_from, word_width}
unfoldable pub use Rattle.tta_arch.specs.Fields.{width_for}
pub use Rattle.tta_arch.specs.Joins.{has_bit, has_guard, has_socket, holds_word, is_dest_on, is_same_guard, is_source_on, joins, within}
pub use Rattle.tta_arch.specs.Layout.{fields_of, has_source_socket, layout_of}
pub use Rattle.tta_arch.specs.Legal.{Ends, all_slots}
unfoldable pub use Rattle.tta_arch.specs.Legal.{can_move}
pub use Rattle.tta_arch.specs.Machine.{Machine}
pub use Rattle.tta_arch.specs.Rules.{IsMachine, are_different, is_bus, is_control, is_file, is_from_to, is_imm, is_port_socket, is_socket, is_unit, same_guard}
pub use Rattle.tta_arch.specs.declared.ends.Dest.{Dest}
pub use Rattle.tta_arch.specs.declared.ends.GuardRef.{GuardRef}
pub use Rattle.tta_arch.specs.declared.ends.Source.{Source}
pub use Rattle.tta_arch.specs.declared.layout.BusFields.{BusFields}
pub use Rattle.tta_arch.specs.declared.layout.Layout.{Layout}
pub use Rattle.tta_arch.specs.declared.parts.Bus.{Bus}
pub use Rattle.tta_arch.specs.declared.parts.Control.{Control}
pub use Rattle.tta_arch.specs.declared.parts.File.{File}
pub use Rattle.tta_arch.specs.declared.parts.Guard.{Guard}
pub use Rattle.tta_arch.specs.declared.parts.ImmUnit.{ImmUnit}
pub use Rattle.tta_arch.specs.declared.parts.Socket.{Socket}
pub use Rattle.tta_arch.specs.declared.parts.Template.{Template}
pub use Rattle.tta_code.specs.Legal.{IsLegalCode, ends_of, is_instruction, is_long, taken}
unfoldable pub use Rattle.tta_code.specs.Legal.{is_legal}
pub use Rattle.tta_code.specs.Whole.{Whole, fits, rises, rises_from}
pub use Rattle.tta_code.specs.declared.code.Code.{Code}
pub use Rattle.tta_code.specs.declared.code.Instruction.{Instruction}
pub use Rattle.tta_code.specs.declared.code.Long.{Long}
pub use Rattle.tta_code.specs.declared.code.Move.{Move}
pub use Rattle.tta_code.specs.declared.whole.Datum.{Datum}
pub use Rattle.tta_parse.specs.Steps.{or_refuse, refuse_if}
