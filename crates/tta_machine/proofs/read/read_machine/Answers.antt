use Rattle.std.proofs.lemmas.Result.{err_from_is_err_and}
use Rattle.tta_machine.specs.Cited.{stated}
use Rattle.tta_machine.proofs.Whole.{lines_told, text_read, text_said, text_stands, text_told}
use Rattle.tta_machine.proofs.read.read_machine.Goals as goal

pub returns-clause-read : goal.returns-clause-read
returns-clause-read g c =
    let U = stated (λ v. (goal.OpUnit-dyn g v).unit_meaning v.1) c.args.units.now in
    text_read U c.args.text.now c.in_ok-draft.draft c.complete.result c.in_ok-draft.ensures c.complete.ensures

pub returns-clause-grammar : goal.returns-clause-grammar
returns-clause-grammar g c =
    let U = stated (λ v. (goal.OpUnit-dyn g v).unit_meaning v.1) c.args.units.now in
    text_said U c.args.text.now c.complete.result (text_read U c.args.text.now c.in_ok-draft.draft c.complete.result c.in_ok-draft.ensures c.complete.ensures)

pub returns-clause-over : goal.returns-clause-over
returns-clause-over g c =
    let U = stated (λ v. (goal.OpUnit-dyn g v).unit_meaning v.1) c.args.units.now in
    text_stands U c.args.text.now c.complete.result (text_read U c.args.text.now c.in_ok-draft.draft c.complete.result c.in_ok-draft.ensures c.complete.ensures)

pub returns-clause-refused : goal.returns-clause-refused
returns-clause-refused g c =
    let U = stated (λ v. (goal.OpUnit-dyn g v).unit_meaning v.1) c.args.units.now in
    text_told U c.args.text.now c.in_ok-draft.draft c.complete.result c.in_ok-draft.ensures c.complete.ensures

pub returns-in_err-draft-clause-refused : goal.returns-in_err-draft-clause-refused
returns-in_err-draft-clause-refused g c =
    let U = stated (λ v. (goal.OpUnit-dyn g v).unit_meaning v.1) c.args.units.now in
    let error = err_from_is_err_and c.from_residual.result c.from_residual.ensures.1 in
    rw (error.1, error.2) (lines_told U c.args.text.now c.in_err-draft.field-0.0 c.in_err-draft.ensures)
