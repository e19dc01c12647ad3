use Rattle.std.proofs.Common.{ℕ, List, subst, inl}
use Rattle.std.proofs.lemmas.Result.{err_from_is_err_and}
use Rattle.tta_load.specs.Cited.{stated, ProgramText}
use Rattle.tta_load.specs.Held.{TakesBytes}
use Rattle.tta_load.specs.Sources.{RefusesSource}
use Rattle.tta_load.proofs.Taking.{file_taken}
use Rattle.tta_load.proofs.source.source_file.Goals as goal

pub returns-clause-ends : goal.returns-clause-ends
returns-clause-ends g c =
    let U = stated (λ v. (goal.OpUnit-dyn g v).unit_meaning v.1) c.args.units.now in
    let Takes : List ℕ → Type 0 = λ bytes. TakesBytes (ProgramText U) (RefusesSource U) bytes (λ p. p) c.source_of.result in
    file_taken (ProgramText U) (RefusesSource U) c.args.name.now c.in_ok-text.text.items c.args.word _ _ (λ p. p) c.source_of.result c.in_ok-text.ensures
    (subst Takes c.as_slice.ensures.value c.source_of.ensures.takes)

pub returns-in_err-text-clause-ends : goal.returns-in_err-text-clause-ends
returns-in_err-text-clause-ends g c =
    let error = err_from_is_err_and c.from_residual.result c.from_residual.ensures.1 in
    rw (error.1, error.2) (inl c.in_err-text.ensures)
