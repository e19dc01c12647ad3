use Rattle.std.proofs.Common.{ℕ, List, subst, inl}
use Rattle.std.proofs.lemmas.Result.{err_from_is_err_and}
use Rattle.tta_load.specs.Cited.{stated}
use Rattle.tta_load.specs.Held.{TakesBytes}
use Rattle.tta_load.specs.Programs.{IsProgramIn, RefusesProgram}
use Rattle.tta_load.proofs.Taking.{file_taken}
use Rattle.tta_load.proofs.program.program_file.Goals as goal

pub returns-clause-ends : goal.returns-clause-ends
returns-clause-ends g c =
    let U = stated (λ v. (goal.OpUnit-dyn g v).unit_meaning v.1) c.args.units.now in
    let Takes : List ℕ → Type 0 = λ bytes. TakesBytes (IsProgramIn U c.args.space) (RefusesProgram U c.args.space) bytes (λ p. p) c.program_of.result in
    file_taken (IsProgramIn U c.args.space) (RefusesProgram U c.args.space) c.args.name.now c.in_ok-text.text.items 2 _ _ (λ p. p) c.program_of.result c.in_ok-text.ensures
    (subst Takes c.as_slice.ensures.value c.program_of.ensures.takes)

pub returns-in_err-text-clause-ends : goal.returns-in_err-text-clause-ends
returns-in_err-text-clause-ends g c =
    let error = err_from_is_err_and c.from_residual.result c.from_residual.ensures.1 in
    rw (error.1, error.2) (inl c.in_err-text.ensures)
