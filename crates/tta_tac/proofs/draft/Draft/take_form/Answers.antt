use Rattle.std.proofs.Common.{◌∙◌, sym, None}
use Rattle.tta_tac.specs.Cited.{texts, stated}
use Rattle.tta_tac.specs.Forms.{ProcForm, DataForm}
use Rattle.tta_tac.specs.Draft.{draft_seen, proc_seen}
use Rattle.tta_tac.specs.Seen.{form_seen}
use Rattle.tta_tac.proofs.DraftRules.{form_says_kept, step_says_kept, moved_kept, begun_of}
use Rattle.tta_tac.proofs.draft.Draft.take_form.Goals as goal

pub returns-in-Proc-clause-rules : goal.returns-in-Proc-clause-rules
returns-in-Proc-clause-rules g c =
    let U = stated (λ v. (goal.OpUnit-dyn g v).unit_meaning v.1) c.args.units.now in
    form_says_kept U (draft_seen c.args.self.now) (draft_seen c.take_proc.new.self) c.args.line
    (ProcForm c.in-Proc.name.now (texts c.in-Proc.params.now)) c.take_proc.result c.requires c.take_proc.ensures

pub returns-in-Data-clause-rules : goal.returns-in-Data-clause-rules
returns-in-Data-clause-rules g c =
    let U = stated (λ v. (goal.OpUnit-dyn g v).unit_meaning v.1) c.args.units.now in
    form_says_kept U (draft_seen c.args.self.now) (draft_seen c.take_data.new.self) c.args.line
    (DataForm c.in-Data.address c.in-Data.value) c.take_data.result c.requires c.take_data.ensures

pub returns-clause-rules : goal.returns-clause-rules
returns-clause-rules g c =
    let U = stated (λ v. (goal.OpUnit-dyn g v).unit_meaning v.1) c.args.units.now in
    let d = draft_seen c.args.self.now in
    step_says_kept U (record d { begun = None }) (draft_seen c.take_step.new.self) (proc_seen c.in-Some.proc) c.args.line
    (form_seen c.args.form.now) c.take_step.result (moved_kept d c.requires)
    (begun_of c.args.self.now.begun c.in-Some.proc c.args.self.now.lines c.requires.begun (sym c.take.ensures.value ∙ c.in-Some.is))
    c.take_step.ensures
