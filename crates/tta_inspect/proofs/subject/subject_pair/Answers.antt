use Rattle.std.proofs.Common.{inl}
use Rattle.std.proofs.lemmas.Result.{err_from_is_err_and}
use Rattle.tta_inspect.specs.Cited.{stated}
use Rattle.tta_load.proofs.Taking.{pair_taken, pair_refused}
use Rattle.tta_inspect.specs.Subjects.{IsSubject, RefusesSubject}
use Rattle.tta_inspect.proofs.subject.subject_pair.Goals as goal

pub returns-clause-ends : goal.returns-clause-ends
returns-clause-ends g c =
    let f = g.F.Files in
    let U = stated (λ v. (goal.OpUnit-dyn g v).unit_meaning v.1) c.args.units.now in
    pair_taken U (IsSubject U) c.args.machine.now c.args.subject.now c.in_ok-file.file c.in_ok-subject.subject
    (f.world c.args.files.now) (f.world c.machine_file.new.files) (f.world c.subject_file.new.files) c.in_ok-file.ensures.ends c.in_ok-subject.ensures.ends

pub returns-in_err-subject-clause-ends : goal.returns-in_err-subject-clause-ends
returns-in_err-subject-clause-ends g c =
    let f = g.F.Files in
    let error = err_from_is_err_and c.from_residual-in_err-subject.result c.from_residual-in_err-subject.ensures.1 in
    let U = stated (λ v. (goal.OpUnit-dyn g v).unit_meaning v.1) c.args.units.now in
    rw (error.1, error.2) (pair_refused U (RefusesSubject U) c.args.machine.now c.args.subject.now c.in_ok-file.file
    (f.world c.args.files.now) (f.world c.machine_file.new.files) (f.world c.subject_file.new.files) c.in_err-subject.field-0.0 c.in_ok-file.ensures.ends c.in_err-subject.ensures.ends)

pub returns-in_err-file-clause-ends : goal.returns-in_err-file-clause-ends
returns-in_err-file-clause-ends g c =
    let error = err_from_is_err_and c.from_residual.result c.from_residual.ensures.1 in
    rw (error.1, error.2) (inl c.in_err-file.ensures.ends)
