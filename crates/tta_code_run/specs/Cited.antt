-- What the definitions and lemmas of this crate cite of other crates, passed on from one place. Declares nothing.
pub use Rattle.tta_arch.specs.Effects.{Brought, Calls, Halts, Jumps, Kind, Start, Written, bring, control_of, first_some, put_out, start_of, write_of}
pub use Rattle.tta_arch.specs.Machine.{Machine}
pub use Rattle.tta_arch.specs.declared.parts.Op.{Op}
pub use Rattle.tta_arch.specs.declared.parts.Op.TheVariants.{Out}
pub use Rattle.tta_code.specs.Cycle.{Fault, Pending, acts, effects_of, fault_of, lands, or_fault, or_wait, pending_after, read_source, takes_effect}
pub use Rattle.tta_code.specs.Whole.{data_in, laid_by}
pub use Rattle.tta_code.specs.declared.code.Code.{Code}
pub use Rattle.tta_code.specs.declared.code.Instruction.{Instruction}
pub use Rattle.tta_list.specs.Laid.{over}
pub use Rattle.tta_ops.specs.Set.{stated}
pub use Rattle.tta_ops.specs.Units.{Units}
pub use Rattle.tta_report.specs.Lines.{lines_text, word_lines}
pub use Rattle.tta_run.specs.Meaning.{Meaning, OutputGrows, WaitStays}
pub use Rattle.tta_run.specs.Reports.{WaitReports, last_text}
pub use Rattle.tta_run.specs.declared.ended.Ended.{Ended}
