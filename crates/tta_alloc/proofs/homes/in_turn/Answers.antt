use Rattle.tta_alloc.proofs.AllotLemmas.{turns_allot}
use Rattle.std.proofs.Common.{List, refl, sym, subst}
use Rattle.tta_flow.proofs.Programs.{procs_are, proc_is}
use Rattle.tta_alloc.specs.declared.interval.Interval.{Interval}
use Rattle.tta_alloc.specs.Intervals.{AreTaken}
use Rattle.tta_alloc.specs.Turns.{AreInTurnOf}
use Rattle.tta_alloc.proofs.HomeLemmas.{held, back, known, given_none, given_more, turned_all}
use Rattle.tta_alloc.proofs.homes.in_turn.Goals as goal

pub loop-owner-init : goal.loop-owner-init
loop-owner-init c = rw c.new-all.ensures.items (given_none (λ q answer. AreInTurnOf q c.args.homes answer) c.args.p.now)

pub taken_of-requires : goal.taken_of-requires
taken_of-requires c =
    known _ _ _ c.loop-owner.owner c.index-procs-owner.result _ _ c.in_ok-steps.steps _ c.p.view_is c.p.invariant c.as_slice-procs.ensures c.loop-owner-test.true
    c.index-procs-owner.is c.requires.flow c.requires.live (λ o i small. held c.as_slice.ensures (c.in_ok-steps.ensures.sound o i small))
    (λ o i small h. c.in_ok-steps.ensures.whole o i small (back c.as_slice.ensures h)) c.at.ensures

pub turn_homes-requires : goal.turn_homes-requires
turn_homes-requires c =
    subst (λ (l : List Interval). AreTaken c.index-procs-owner.result l) (sym c.as_slice-in-loop-owner.ensures.value) c.in_ok-taken.ensures

pub loop-owner-preserved : goal.loop-owner-preserved
loop-owner-preserved c =
    given_more (λ q answer. AreInTurnOf q c.args.homes answer) _ _ _ _ c.index-procs-owner.result _
    (proc_is _ _ _ c.p.view_is c.as_slice-procs.ensures c.loop-owner.owner c.index-procs-owner.result c.loop-owner-test.true c.index-procs-owner.is)
    c.loop-owner.invariant c.in_ok-turn_homes.ensures c.in_ok-push.ensures.items

pub returns-clause-turns : goal.returns-clause-turns
returns-clause-turns c = turned_all _ _ _ _ _ refl (procs_are _ _ _ c.p.view_is c.as_slice-procs.ensures) c.loop-owner-test.false c.loop-owner.invariant

pub returns-clause-allotted : goal.returns-clause-allotted
returns-clause-allotted c =
    turns_allot _ _ _ (turned_all _ _ _ _ _ refl (procs_are _ _ _ c.p.view_is c.as_slice-procs.ensures) c.loop-owner-test.false c.loop-owner.invariant)
