use Rattle.std.proofs.Common.{ℕ, List, subst, inl}
use Rattle.std.proofs.lemmas.Result.{err_from_is_err_and}
use Rattle.tta_load.specs.Held.{TakesBytes}
use Rattle.tta_load.specs.Inputs.{IsInput, RefusesStream}
use Rattle.tta_load.proofs.Taking.{file_taken}
use Rattle.tta_load.proofs.input.named_stream.Goals as goal

pub returns : goal.returns
returns g c =
    let Takes : List ℕ → Type 0 = λ bytes. TakesBytes (IsInput) (RefusesStream) bytes (λ v. v.items) c.stream_of.result in
    file_taken (IsInput) (RefusesStream) c.args.name.now c.in_ok-bytes.bytes.items c.args.word _ _ (λ v. v.items) c.stream_of.result c.in_ok-bytes.ensures
    (subst Takes c.as_slice.ensures.value c.stream_of.ensures)

pub returns-in_err-bytes : goal.returns-in_err-bytes
returns-in_err-bytes g c =
    let error = err_from_is_err_and c.from_residual.result c.from_residual.ensures.1 in
    rw (error.1, error.2) (inl c.in_err-bytes.ensures)
