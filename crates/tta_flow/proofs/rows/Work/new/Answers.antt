use Rattle.std.proofs.Common.{◌≤◌, length, arith, rules}
use Rattle.tta_flow.proofs.RoundLemmas.{new_none, new_more, new_work}
use Rattle.tta_flow.proofs.rows.Work.new.Goals as goal

pub loop-at-init : goal.loop-at-init
loop-at-init c = rw c.new-rows.ensures.items (new_none c.args.steps.now c.args.vars c.in_ok-due.due c.in_ok-due.ensures.room)

pub loop-at-preserved : goal.loop-at-preserved
loop-at-preserved c =
    new_more c.args.steps.now c.args.vars c.loop-at.at c.loop-at.rows.items c.push.new.self.items c.in_ok-new.field-0 c.loop-at.due c.set_within.new.self
    c.loop-at-test.true c.in_ok-new.ensures.clear c.in_ok-new.ensures.room c.in_ok-push.ensures.items c.set_within.ensures c.loop-at.invariant

pub returns : goal.returns
returns c =
    let past : length c.args.steps.now ≤ c.loop-at.at = search rules in
    let within : c.loop-at.at ≤ length c.args.steps.now = search rules in
    new_work c.args.steps.now c.args.vars c.loop-at.at _ (omega arith) c.in_ok-room.ensures.room c.loop-at.invariant
