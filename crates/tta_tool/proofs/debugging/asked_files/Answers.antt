use Rattle.std.proofs.Common.{option_map, inl}
use Rattle.std.proofs.lemmas.Result.{err_from_is_err_and}
use Rattle.tta_tool.proofs.Debuggings.{asked_read, asked_refused}
use Rattle.tta_tool.proofs.debugging.asked_files.Goals as goal

pub returns-clause-ends : goal.returns-clause-ends
returns-clause-ends g c =
    let f = g.F.Files in
    let request = c.args.request.now in
    let script = c.in_ok-script.script in
    asked_read c.args.space request.names.input.now request.script.now (option_map (λ s. s.now) request.names.stream)
    c.in_ok-memory.memory.items script.bytes.items script.words.items
    (f.world c.args.files.now) (f.world c.input_file.new.files) (f.world c.script_files.new.files) c.in_ok-memory.ensures.ends c.in_ok-script.ensures.ends

pub returns-in_err-script-clause-ends : goal.returns-in_err-script-clause-ends
returns-in_err-script-clause-ends g c =
    let f = g.F.Files in
    let error = err_from_is_err_and c.from_residual-in_err-script.result c.from_residual-in_err-script.ensures.1 in
    let request = c.args.request.now in
    rw (error.1, error.2) (asked_refused c.args.space request.names.input.now request.script.now (option_map (λ s. s.now) request.names.stream) c.in_ok-memory.memory.items
    (f.world c.args.files.now) (f.world c.input_file.new.files) (f.world c.script_files.new.files) c.in_err-script.field-0.0
    c.in_ok-memory.ensures.ends c.in_err-script.ensures.ends)

pub returns-in_err-memory-clause-ends : goal.returns-in_err-memory-clause-ends
returns-in_err-memory-clause-ends g c =
    let error = err_from_is_err_and c.from_residual.result c.from_residual.ensures.1 in
    rw (error.1, error.2) (inl c.in_err-memory.ensures.ends)
