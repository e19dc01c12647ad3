use Rattle.std.proofs.Common.{rules, ◌≡◌, ◌<◌, ℕ, List, length, get_or, ap, subst, ◌∙◌}
use Rattle.tta_stages.specs.Cited.{Program, Proc}
use Rattle.tta_stages.specs.ProgramText.{own_slots}
use Rattle.tta_stages.proofs.Procs.{proc_more}
use Rattle.tta_stages.proofs.text.variables.push_variables.Goals as goal

pub loop-owner-preserved : goal.loop-owner-preserved
loop-owner-preserved c =
    let procs = c.as_slice-q-items.ensures ∙ ap (λ (x : Program). x.procs) c.p.view_is in
    let main = ap (λ (x : Program). x.main) c.p.view_is in
    let low = subst (λ (qs : List Proc). c.loop-owner.owner < length qs) procs c.loop-owner-test.true in
    let is = subst (λ (qs : List Proc). c.q-item.result ≡ get_or qs c.loop-owner.owner c.q-item.result) procs c.q-item.is in
    let own = subst (λ (x : ℕ). c.own_slots.result ≡ own_slots x c.loop-owner.owner) main c.own_slots.ensures.value in
    record {
      text = proc_more c.args.on.now.m.now c.args.on.now.homes.now c.args.p.now c.args.lowered.now c.args.p.now.procs c.loop-owner.owner c.loop-owner.next
          c.q-item.result c.own_slots.result c.from.result _ _ _ low is own c.from.ensures c.in_ok-push_proc_variables.ensures c.loop-owner.invariant.text;
      few = search rules;
    }
