use Rattle.std.proofs.Common.{refl, arith}
use Rattle.tta_lower.proofs.Firsts.{seen, proc-at, lay-room, lay-end, laid-none, laid-more}
use Rattle.tta_lower.proofs.laying.lay_frames.Goals as goal

pub loop-o-init : goal.loop-o-init
loop-o-init c = laid-none c.args.p.now _ 0 c.requires.empty refl

pub lay_frame-requires : goal.lay_frame-requires
lay_frame-requires c =
    let s = seen _ c.args.p.now c.as_slice-procs.result.now c.p.view_is c.p.invariant c.as_slice-procs.ensures in
    record { room = lay-room _ _ _ _ _ _ s c.loop-o.invariant c.loop-o-test.true c.index-procs-o.is }

pub loop-o-preserved : goal.loop-o-preserved
loop-o-preserved c =
    let s = seen _ c.args.p.now c.as_slice-procs.result.now c.p.view_is c.p.invariant c.as_slice-procs.ensures in
    laid-more c.args.p.now _ _ _ _ _ _ c.loop-o.invariant (proc-at _ _ _ _ s c.loop-o-test.true c.index-procs-o.is) c.in_ok-next.ensures.first c.in_ok-next.ensures.next

pub returns-clause-laid : goal.returns-clause-laid
returns-clause-laid c =
    let s = seen _ c.args.p.now c.as_slice-procs.result.now c.p.view_is c.p.invariant c.as_slice-procs.ensures in
    (lay-end _ _ _ _ _ s c.loop-o.invariant (omega (arith, c.loop-o-test.false, c.loop-o.auto.o-end))).0

pub returns-clause-need : goal.returns-clause-need
returns-clause-need c =
    let s = seen _ c.args.p.now c.as_slice-procs.result.now c.p.view_is c.p.invariant c.as_slice-procs.ensures in
    (lay-end _ _ _ _ _ s c.loop-o.invariant (omega (arith, c.loop-o-test.false, c.loop-o.auto.o-end))).1

pub returns-clause-sound : goal.returns-clause-sound
returns-clause-sound c = (seen _ c.args.p.now c.as_slice-procs.result.now c.p.view_is c.p.invariant c.as_slice-procs.ensures).sound
