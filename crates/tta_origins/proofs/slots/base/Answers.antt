use Rattle.std.proofs.Common.{◌≡◌, ◌<◌, ◌≤◌, List, length, get_or, ap, subst, ◌∙◌, arith, rules}
use Rattle.tta_lower.specs.Layout.{base}
use Rattle.tta_origins.specs.Cited.{Program, Proc}
use Rattle.tta_origins.proofs.Procs.{slots_more, slots_all}
use Rattle.tta_origins.proofs.slots.base.Goals as goal

pub loop-k-preserved : goal.loop-k-preserved
loop-k-preserved c =
    let procs = c.as_slice-q-items.ensures ∙ ap (λ (x : Program). x.procs) c.p.view_is in
    let low = subst (λ (qs : List Proc). c.loop-k.k < length qs) procs c.loop-k-test.true in
    let is = subst (λ (qs : List Proc). c.q-item.result ≡ get_or qs c.loop-k.k c.q-item.result) procs c.q-item.is in
    let test = c.if-k-owner.false in
    let below : c.loop-k.k < c.args.owner = omega (arith, test) in
    record {
      value = slots_more c.args.p.now c.args.p.now.procs c.loop-k.k c.args.owner c.loop-k.slots c.own.result c.from.result _ c.q-item.result low is below c.own.ensures.value c.from.ensures
          c.loop-k.invariant.value;
      few = search rules;
    }

pub returns-clause-value : goal.returns-clause-value
unfolding base
returns-clause-value c =
    let procs = c.as_slice-q-items.ensures ∙ ap (λ (x : Program). x.procs) c.p.view_is in
    let past = subst (λ (qs : List Proc). length qs ≤ c.loop-k.k) procs c.loop-k-test.false in
    slots_all c.args.p.now c.args.p.now.procs c.loop-k.k c.args.owner c.loop-k.slots _ past c.loop-k.invariant.value
