use Rattle.std.proofs.Common.{ℕ, List, subst, inl}
use Rattle.std.proofs.lemmas.Result.{err_from_is_err_and}
use Rattle.tta_load.specs.Held.{TakesBytes}
use Rattle.tta_load.specs.Inputs.{Fills, RefusesInput}
use Rattle.tta_load.proofs.Taking.{file_taken}
use Rattle.tta_load.proofs.input.input_file.Goals as goal

pub returns-clause-ends : goal.returns-clause-ends
returns-clause-ends g c =
    let Takes : List ℕ → Type 0 = λ bytes. TakesBytes (Fills c.args.space) (RefusesInput c.args.space) bytes (λ v. v.items) c.words_of.result in
    file_taken (Fills c.args.space) (RefusesInput c.args.space) c.args.name.now c.in_ok-bytes.bytes.items c.args.word _ _ (λ v. v.items) c.words_of.result c.in_ok-bytes.ensures
    (subst Takes c.as_slice.ensures.value c.words_of.ensures.takes)

pub returns-in_err-bytes-clause-ends : goal.returns-in_err-bytes-clause-ends
returns-in_err-bytes-clause-ends g c =
    let error = err_from_is_err_and c.from_residual.result c.from_residual.ensures.1 in
    rw (error.1, error.2) (inl c.in_err-bytes.ensures)
