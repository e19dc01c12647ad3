use Rattle.std.proofs.Common.{◌≡◌, ◌∙◌, ap, true, false, length}
use Rattle.std.specs.Prelude.{nat_lt, nat_le, Ok}
use Rattle.std.proofs.lemmas.Bool.{lt-ltb, le-ltb, lt-leb}
use Rattle.tta_tac.specs.Cited.{stated}
use Rattle.tta_tac.specs.Draft.{draft_seen, proc_seen, step_seen}
use Rattle.tta_tac.specs.Seen.{form_seen}
use Rattle.tta_tac.proofs.Lines.{take_step_many, take_step_taken, step_added}
use Rattle.tta_tac.proofs.draft.Draft.add_step.Goals as goal

pub returns-then-len-gt-MOST_VARS-clause-says : goal.returns-then-len-gt-MOST_VARS-clause-says
returns-then-len-gt-MOST_VARS-clause-says g c =
    let U = stated (λ v. (goal.OpUnit-dyn g v).unit_meaning v.1) c.args.units.now in
    let many : nat_lt 4096 (length c.declare_names.new.vars) ≡ true =
    lt-ltb 4096 (length c.declare_names.new.vars) (rw c.len.ensures at c.if-len-gt-MOST_VARS.true) in
    take_step_many U (draft_seen c.args.self.now) (proc_seen c.args.proc.now) c.args.line (form_seen c.args.form.now) _
    c.check_op.result c.check_op.ensures c.in_ok-check_op.was c.declare_names.new.vars c.in_ok-declare_names.ensures many

pub returns-clause-says : goal.returns-clause-says
returns-clause-says g c =
    let U = stated (λ v. (goal.OpUnit-dyn g v).unit_meaning v.1) c.args.units.now in
    let d = draft_seen c.args.self.now in
    let q = c.args.proc.now in
    let f = form_seen c.args.form.now in
    let vars = c.declare_names.new.vars in
    let full : nat_le 65536 d.lines ≡ false = lt-leb 65536 d.lines c.if-self-ge-MOST_LINES.false in
    let many : nat_lt 4096 (length vars) ≡ false = le-ltb 4096 (length vars) (rw c.len.ensures at c.if-len-gt-MOST_VARS.false) in
    take_step_taken U d (proc_seen q) c.args.line f _ c.check_op.result c.check_op.ensures
    c.in_ok-check_op.was vars (step_seen c.in-Some.step) c.in_ok-declare_names.ensures full (cc) many (rw c.in-Some.is at c.in_ok-step.ensures)
    ∙ ap Ok (step_added d f q c.args.line vars c.in-Some.step c.push.new.self c.push-2.new.self
    c.in_ok-push.ensures.ok c.in_ok-push-2.ensures.ok)
