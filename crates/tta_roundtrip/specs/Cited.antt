-- What the definitions and lemmas of this crate cite of other crates, passed on from one place. Declares nothing.
pub use Rattle.tta_ifconv.specs.Converted.{Converted, IsConverted}
pub use Rattle.tta_ifconv.specs.Triangles.{becomes, is_dropped, is_target, is_triangle, names, opposite, place, renumbered, target}
pub use Rattle.tta_list.specs.Legs.{AllPairs}
pub use Rattle.tta_ops.specs.Reserved.{reserved_words}
unfoldable pub use Rattle.tta_ops.specs.Reserved.{is_reserved}
pub use Rattle.tta_ops.specs.Units.{AreDistinct, Units, first_at, named}
pub use Rattle.tta_ops.specs.declared.OpId.{OpId}
pub use Rattle.tta_program.specs.Over.{StandsOver, has_test, is_over, is_zero, test_name}
pub use Rattle.tta_program.specs.Program.{Program, data_of, datum_of}
pub use Rattle.tta_program.specs.Rules.{ByCall, ByMore, IsProc, IsProgram, Reaches, are_apart, calls_proc, ends_once, is_call, is_datum, is_src, is_step}
pub use Rattle.tta_program.specs.declared.operand.Rel.{Rel}
pub use Rattle.tta_program.specs.declared.operand.Rel.TheVariants.{Eq, Ge, Geu, Lt, Ltu, Ne}
pub use Rattle.tta_program.specs.declared.operand.Src.{Src}
pub use Rattle.tta_program.specs.declared.operand.Src.TheVariants.{Var, Word}
pub use Rattle.tta_program.specs.declared.program.DataLine.{DataLine}
pub use Rattle.tta_program.specs.declared.program.Proc.{Proc}
pub use Rattle.tta_program.specs.declared.step.Step.{Step}
pub use Rattle.tta_program.specs.declared.step.Step.TheVariants.{Apply, Copy, End, Goto, Halt, If, Invoke, Load, Put, Return, Store, Take, When}
pub use Rattle.tta_parse.specs.Lines.{Lexeme, Line, is_line_end, lines_from}
unfoldable pub use Rattle.tta_parse.specs.Lines.{lines_of}
pub use Rattle.tta_parse.specs.Names.{Declared, named_in}
pub use Rattle.tta_parse.specs.Steps.{at_line, only_if, or_refuse, refuse_if}
pub use Rattle.tta_parse.specs.Words.{constant_of, is_keyword, is_mark, name_of, value_of}
pub use Rattle.tta_tac.specs.Draft.{CallTo, Draft, GotoTo, IfTo, Plain, Unlinked}
pub use Rattle.tta_tac.specs.FirstPass.{apply_step, arity_of, asked_op, has_many_args, has_twice, has_wrong_arity, is_end, lacks_op, numbered, op_id, src_of, srcs_of, step_of, var_number, vars_after, with_operand, with_operands, with_var}
pub use Rattle.tta_tac.specs.Forms.{ApplyForm, CallForm, Constant, CopyForm, DataForm, EndForm, Form, GotoForm, HaltForm, IfForm, LabelForm, LoadForm, Named, Operand, ProcForm, PutForm, ReturnForm, StoreForm, TakeForm, WhenForm, alone_form, constant_operand, free_name, names_alone, operand_of, operands_alone, or_constant, rel_of}
unfoldable pub use Rattle.tta_tac.specs.Forms.{assign_form, call_form, form_of, goto_form, if_form, named_form, proc_form, put_form, return_form, store_form, when_form}
pub use Rattle.tta_tac.specs.Grammar.{Block, IsBlock, IsProgramText, KeepsRules, Said, are_nested, blocks, data_said, datum_in, draft_said, is_fit, is_line, label_in, label_names, labels_said, proc_in, proc_said, said_from, steps_said, up_to_end, vars_said}
pub use Rattle.tta_tac.specs.SecondPass.{callee_named, link_proc, link_procs, link_step, link_steps, params_of}
pub use Rattle.tta_tac.specs.Text.{ProgramText, with_main}
pub use Rattle.tta_tac.specs.declared.refusal.Refusal.TheVariants.{Arity, UnknownLabel}
pub use Rattle.tta_text.specs.Bytes.{is_newline, is_word_byte}
pub use Rattle.tta_text.specs.Tokens.{token}
unfoldable pub use Rattle.tta_text.specs.Tokens.{piece_at, tokens_from, tokens_of}
pub use Rattle.tta_text.specs.Words.{first_is, is_name, is_run}
pub use Rattle.tta_text.specs.declared.lexeme.Kind.TheVariants.{Bad, Eol, Mark, Name, Negative, Number}
