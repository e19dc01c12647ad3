-- What the definitions and lemmas of this crate cite of other crates, passed on from one place. Declares nothing.
pub use Rattle.tta_arch.specs.Effects.{first_some, op_at, or_else}
pub use Rattle.tta_arch.specs.Fields.{numbers}
pub use Rattle.tta_arch.specs.Joins.{has_bit}
pub use Rattle.tta_arch.specs.Machine.{Machine}
pub use Rattle.tta_arch.specs.Over.{StandsOver, is_named}
pub use Rattle.tta_arch.specs.Rules.{IsMachine, IsMachineName, names_of}
pub use Rattle.tta_arch.specs.declared.ends.Dest.{Dest}
pub use Rattle.tta_arch.specs.declared.ends.Source.{Source}
pub use Rattle.tta_arch.specs.declared.parts.Bus.{Bus}
pub use Rattle.tta_arch.specs.declared.parts.File.{File}
pub use Rattle.tta_arch.specs.declared.parts.ImmUnit.{ImmUnit}
pub use Rattle.tta_arch.specs.declared.parts.Op.{Op}
pub use Rattle.tta_arch.specs.declared.parts.Op.TheVariants.{Ldf, Ldw, Out, Set, Stf, Stw, Take}
pub use Rattle.tta_arch.specs.declared.parts.Socket.{Socket}
pub use Rattle.tta_arch.specs.declared.parts.Template.{Template}
pub use Rattle.tta_arch.specs.declared.parts.UnitOp.{UnitOp}
pub use Rattle.tta_disasm.specs.Canonical.{imm_name, place_text, template_name}
pub use Rattle.tta_disasm.specs.Canonical.{op_name}
pub use Rattle.tta_code.specs.Legal.{taken}
unfoldable pub use Rattle.tta_code.specs.Legal.{is_legal}
pub use Rattle.tta_code.specs.declared.code.Code.{Code}
pub use Rattle.tta_code.specs.declared.code.Instruction.{Instruction}
pub use Rattle.tta_code.specs.declared.code.Long.{Long}
pub use Rattle.tta_code.specs.declared.code.Move.{Move}
pub use Rattle.tta_ops.specs.Set.{stated}
pub use Rattle.tta_ops.specs.Units.{Units}
pub use Rattle.tta_ops.specs.declared.OpId.{OpId}
pub use Rattle.tta_text.specs.Words.{first_is, is_letter, is_name, is_run}
