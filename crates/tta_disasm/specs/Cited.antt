-- What the definitions and lemmas of this crate cite of other crates, passed on from one place. Declares nothing.
pub use Rattle.tta_arch.specs.Machine.{Machine}
pub use Rattle.tta_arch.specs.declared.ends.Dest.{Dest}
pub use Rattle.tta_arch.specs.declared.ends.GuardRef.{GuardRef}
pub use Rattle.tta_arch.specs.declared.ends.Source.{Source}
pub use Rattle.tta_arch.specs.declared.parts.Op.{Op}
pub use Rattle.tta_arch.specs.declared.parts.Op.TheVariants.{Ldf, Ldw, Out, Set, Stf, Stw, Take}
pub use Rattle.tta_code.specs.Whole.{Whole}
pub use Rattle.tta_code.specs.declared.code.Instruction.{Instruction}
pub use Rattle.tta_code.specs.declared.code.Long.{Long}
pub use Rattle.tta_code.specs.declared.code.Move.{Move}
pub use Rattle.tta_code.specs.declared.whole.Datum.{Datum}
pub use Rattle.tta_ops.specs.Set.{stated}
pub use Rattle.tta_ops.specs.Units.{Units}
