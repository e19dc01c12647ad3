use Rattle.std.proofs.Common.{sym, subst}
use Rattle.tta_alloc.specs.Turns.{AreInTurnOf}
use Rattle.tta_alloc.proofs.LawLemmas.{scan_keeps}
use Rattle.tta_alloc.proofs.TurnedLemmas.{turned_none, turned_more, turned_whole, some_homes}
use Rattle.tta_alloc.proofs.turns.turn_homes.Goals as goal

pub loop-new-init : goal.loop-new-init
loop-new-init c = turned_none _ _ _ _ _ c.in_ok-slots.ensures c.in_ok-zeros.ensures.count c.in_ok-zeros.ensures.zeros

pub step-requires-clause-some : goal.step-requires-clause-some
step-requires-clause-some c =
    some_homes _ _ _ _ _ _ _ _ c.requires c.in_ok-first.ensures c.loop-new.invariant.count c.as_slice.ensures.value c.stays.ensures

pub loop-new-preserved : goal.loop-new-preserved
loop-new-preserved c =
    turned_more _ _ _ _ c.loop-new.new-index _ _ c.stays.result _ _ c.requires
    (scan_keeps _ _ _ (record { taken = c.args.taken.now; are = c.requires; is = c.in_ok-first.ensures })) c.loop-new-test.true c.loop-new.invariant
    c.as_slice.ensures.value c.stays.ensures c.step.ensures.takes c.step.ensures.rests

pub returns : goal.returns
returns c =
    subst (λ v. AreInTurnOf c.args.q.now c.args.homes v.items) (sym c.into_homes.ensures)
    (turned_whole _ _ _ _ _ c.loop-new.new-index _ c.requires c.in_ok-first.ensures c.loop-new-test.false c.loop-new.invariant)
