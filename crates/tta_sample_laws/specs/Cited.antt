-- What the definitions and lemmas of this crate cite of other crates, passed on from one place. Declares nothing.
pub use Rattle.tta_list.specs.Iterate.{iterate}
pub use Rattle.tta_ops.specs.Comparison.{compare, truth}
unfoldable pub use Rattle.tta_ops.specs.Reserved.{is_reserved}
pub use Rattle.tta_ops.specs.Units.{Units, named}
pub use Rattle.tta_ops.specs.declared.OpId.{OpId}
pub use Rattle.tta_pretty.specs.Printed.{Label, Printed, Words, equals, label_name, line_text, number, var_name, word}
pub use Rattle.tta_program.specs.Program.{Program}
pub use Rattle.tta_program.specs.Sequential.{Frame, Halted, Running, State, Waiting, carry_out, goes_through, holds, operand, seq, start, step_at, takes}
unfoldable pub use Rattle.tta_program.specs.Sequential.{next}
pub use Rattle.tta_program.specs.declared.operand.Rel.TheVariants.{Lt, Ltu, Ne}
pub use Rattle.tta_program.specs.declared.operand.Src.{Src}
pub use Rattle.tta_program.specs.declared.operand.Src.TheVariants.{Var, Word}
pub use Rattle.tta_program.specs.declared.program.DataLine.{DataLine}
pub use Rattle.tta_program.specs.declared.program.Proc.{Proc}
pub use Rattle.tta_program.specs.declared.step.Step.{Step}
pub use Rattle.tta_program.specs.declared.step.Step.TheVariants.{Apply, Copy, End, Goto, Halt, If, Invoke, Load, Put, Return, Store, Take, When}
unfoldable pub use Rattle.tta_parse.specs.Lines.{lines_of}
pub use Rattle.tta_parse.specs.Names.{Declared, named_in}
pub use Rattle.tta_sample.specs.Sample.{assigned_of, body, constant_of, copied_of, copy_constant, first_of, head, kind_line, kind_of, late_line, load, middle_line, next_number, of_one, of_two, put_out, sample_text, second_of, skipped, store, tail, when}
pub use Rattle.tta_tac.specs.Draft.{Draft, IfTo, Plain, Unlinked}
pub use Rattle.tta_tac.specs.FirstPass.{has_twice, is_end, numbered, op_id, step_of, var_number, vars_after, with_var}
pub use Rattle.tta_tac.specs.Forms.{ApplyForm, Constant, CopyForm, EndForm, Form, HaltForm, IfForm, LabelForm, LoadForm, Named, ProcForm, PutForm, StoreForm, WhenForm}
unfoldable pub use Rattle.tta_tac.specs.Forms.{assign_form, form_of, if_form, named_form, proc_form, put_form}
pub use Rattle.tta_tac.specs.Grammar.{Block, IsBlock, IsProgramText, KeepsRules, Said, blocks, draft_said, is_fit, label_in, label_names, labels_said, proc_in, proc_said, said_from, step_lines, steps_said, up_to_end, vars_said}
pub use Rattle.tta_tac.specs.SecondPass.{link_proc, link_procs, link_step, link_steps}
pub use Rattle.tta_tac.specs.Text.{ProgramText}
pub use Rattle.tta_tac.specs.declared.refusal.Refusal.TheVariants.{UnknownLabel}
unfoldable pub use Rattle.tta_text.specs.Numbers.{digits_of, number_of, value_below}
pub use Rattle.tta_text.specs.Words.{is_name}
