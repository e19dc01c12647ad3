use Rattle.std.proofs.Common.{ℕ, inl, subst}
use Rattle.std.proofs.lemmas.Result.{err_from_is_err_and}
use Rattle.tta_load.specs.Cited.{stated}
use Rattle.tta_load.specs.Held.{IsTaken, FileFails}
use Rattle.tta_load.specs.Programs.{IsProgramIn, IsProgramFor, RefusesProgram, RefusesProgramFor}
use Rattle.tta_load.proofs.Taking.{pair_taken, pair_refused}
use Rattle.tta_load.proofs.pair.program_pair.Goals as goal

pub returns-clause-ends : goal.returns-clause-ends
returns-clause-ends g c =
    let f = g.F.Files in
    let U = stated (λ v. (goal.OpUnit-dyn g v).unit_meaning v.1) c.args.units.now in
    let program = c.in_ok-program.program in
    let between = f.world c.machine_file.new.files in
    let after = f.world c.program_file.new.files in
    let Taken : ℕ → Type 0 = λ n. IsTaken (IsProgramIn U n) c.args.program.now program between after in
    pair_taken U (IsProgramFor U) c.args.machine.now c.args.program.now c.in_ok-file.file program (f.world c.args.files.now) between after
    c.in_ok-file.ensures.ends (subst Taken c.data_words-space.ensures c.in_ok-program.ensures.ends)

pub returns-clause-inside : goal.returns-clause-inside
returns-clause-inside g c =
    rw (← c.data_words-space.ensures) c.in_ok-program.ensures.ends.held.says.inside

pub returns-in_err-program-clause-ends : goal.returns-in_err-program-clause-ends
returns-in_err-program-clause-ends g c =
    let f = g.F.Files in
    let error = err_from_is_err_and c.from_residual-in_err-program.result c.from_residual-in_err-program.ensures.1 in
    let U = stated (λ v. (goal.OpUnit-dyn g v).unit_meaning v.1) c.args.units.now in
    let status = c.in_err-program.field-0.0 in
    let between = f.world c.machine_file.new.files in
    let after = f.world c.program_file.new.files in
    let Fails : ℕ → Type 0 = λ n. FileFails (RefusesProgram U n) c.args.program.now 2 between after status in
    rw (error.1, error.2) (pair_refused U (RefusesProgramFor U) c.args.machine.now c.args.program.now c.in_ok-file.file (f.world c.args.files.now) between after status
    c.in_ok-file.ensures.ends (subst Fails c.data_words-space.ensures c.in_err-program.ensures.ends))

pub returns-in_err-file-clause-ends : goal.returns-in_err-file-clause-ends
returns-in_err-file-clause-ends g c =
    let error = err_from_is_err_and c.from_residual.result c.from_residual.ensures.1 in
    rw (error.1, error.2) (inl c.in_err-file.ensures.ends)
