use Rattle.tta_flow.proofs.Programs.{procs_are, proc_is}
use Rattle.tta_alloc.proofs.HomeLemmas.{held, back, known}
use Rattle.tta_alloc.proofs.EachInterval.{each_none, each_more, each_all}
use Rattle.tta_alloc.proofs.intervals.Intervals.of.Goals as goal

pub loop-owner-init : goal.loop-owner-init
loop-owner-init c = rw c.new-all.ensures.items (each_none c.args.p.now)

pub intervals_of-requires : goal.intervals_of-requires
intervals_of-requires c =
    known _ _ _ c.loop-owner.owner c.index-procs-owner.result _ _ c.in_ok-steps.steps _ c.p.view_is c.p.invariant c.as_slice-procs.ensures c.loop-owner-test.true
    c.index-procs-owner.is c.requires.flow c.requires.live (λ o i small. held c.as_slice.ensures (c.in_ok-steps.ensures.sound o i small))
    (λ o i small h. c.in_ok-steps.ensures.whole o i small (back c.as_slice.ensures h)) c.at.ensures

pub loop-owner-preserved : goal.loop-owner-preserved
loop-owner-preserved c =
    each_more _ _ _ _ _ c.index-procs-owner.result
    (proc_is _ _ _ c.p.view_is c.as_slice-procs.ensures c.loop-owner.owner c.index-procs-owner.result c.loop-owner-test.true c.index-procs-owner.is)
    c.loop-owner.invariant c.in_ok-intervals_of.ensures c.in_ok-push.ensures.items

pub returns : goal.returns
returns c = each_all _ _ _ _ (procs_are _ _ _ c.p.view_is c.as_slice-procs.ensures) c.loop-owner-test.false c.loop-owner.invariant
