use Rattle.std.proofs.Common.{ℕ, List, subst, inl}
use Rattle.std.proofs.lemmas.Result.{err_from_is_err_and}
use Rattle.tta_load.specs.Cited.{stated}
use Rattle.tta_load.specs.Held.{TakesBytes}
use Rattle.tta_load.specs.Machines.{IsDescribed, RefusesMachine}
use Rattle.tta_load.proofs.Taking.{file_taken}
use Rattle.tta_load.proofs.machine.machine_file.Goals as goal

pub returns-clause-ends : goal.returns-clause-ends
returns-clause-ends g c =
    let U = stated (λ v. (goal.OpUnit-dyn g v).unit_meaning v.1) c.args.units.now in
    let Takes : List ℕ → Type 0 = λ bytes. TakesBytes (IsDescribed U) (RefusesMachine U) bytes (λ f. f) c.described.result in
    file_taken (IsDescribed U) (RefusesMachine U) c.args.name.now c.in_ok-text.text.items c.args.word _ _ (λ f. f) c.described.result c.in_ok-text.ensures
    (subst Takes c.as_slice.ensures.value c.described.ensures.takes)

pub returns-in_err-text-clause-ends : goal.returns-in_err-text-clause-ends
returns-in_err-text-clause-ends g c =
    let error = err_from_is_err_and c.from_residual.result c.from_residual.ensures.1 in
    rw (error.1, error.2) (inl c.in_err-text.ensures)
