use Rattle.std.proofs.Common.{option_map, inl}
use Rattle.std.proofs.lemmas.Result.{err_from_is_err_and}
use Rattle.tta_load.proofs.Taking.{given_taken, given_refused}
use Rattle.tta_load.proofs.input.given_files.Goals as goal

pub returns-clause-ends : goal.returns-clause-ends
returns-clause-ends g c =
    let f = g.F.Files in
    given_taken c.args.space c.args.input.now (option_map (λ s. s.now) c.args.stream) c.in_ok-memory.memory.items c.in_ok-words.words.items
    (f.world c.args.files.now) (f.world c.input_file.new.files) (f.world c.stream_file.new.files) c.in_ok-memory.ensures.ends c.in_ok-words.ensures

pub returns-in_err-words-clause-ends : goal.returns-in_err-words-clause-ends
returns-in_err-words-clause-ends g c =
    let f = g.F.Files in
    let error = err_from_is_err_and c.from_residual-in_err-words.result c.from_residual-in_err-words.ensures.1 in
    rw (error.1, error.2) (given_refused c.args.word c.args.space c.args.input.now (option_map (λ s. s.now) c.args.stream) c.in_ok-memory.memory.items
    (f.world c.args.files.now) (f.world c.input_file.new.files) (f.world c.stream_file.new.files)
    c.in_err-words.field-0.0 c.in_ok-memory.ensures.ends c.in_err-words.ensures)

pub returns-in_err-memory-clause-ends : goal.returns-in_err-memory-clause-ends
returns-in_err-memory-clause-ends g c =
    let error = err_from_is_err_and c.from_residual.result c.from_residual.ensures.1 in
    rw (error.1, error.2) (inl c.in_err-memory.ensures.ends)
