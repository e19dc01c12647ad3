use Rattle.std.proofs.Common.{◌≡◌, ℕ, List, length, refl, ap, arith, ◌∙◌}
use Rattle.std.proofs.lemmas.Bool.Decides.{nat_tests}
use Rattle.tta_loadelim.specs.Thinned.{is_in}
use Rattle.tta_loadelim.proofs.ThinWalk.{thinned_goes, thinned_stays, thinned_done}
use Rattle.tta_loadelim.proofs.thinning.unmarked.Goals as goal

pub loop-i-preserved-then-mark_at : goal.loop-i-preserved-then-mark_at
loop-i-preserved-then-mark_at c =
    rw c.push.ensures.items
    (thinned_goes c.args.m.now c.args.items.now c.loop-i.last c.operand_after-last.result c.loop-i.pending.items c.loop-i.out.items c.loop-i.i c.in-Some.v _ _ c.loop-i-test.true refl
    c.in-Some.ensures (c.operand_after-last.ensures c.args.m.now) c.loop-i.invariant)

pub loop-i-preserved : goal.loop-i-preserved
loop-i-preserved c =
    rw (c.in_ok-push.ensures.items, c.without-pending.ensures, c.as_slice-in-loop-i.ensures.value)
    (thinned_stays c.args.m.now c.args.items.now c.loop-i.last c.operand_after-last.result c.loop-i.pending.items c.loop-i.out.items c.loop-i.i c.stored-slot.result _ _ c.loop-i-test.true refl
    c.stored-slot.ensures (c.operand_after-last.ensures c.args.m.now)
    (λ v among. c.lets_stay.ensures c.if-not-lets_stay.false v (ap (λ (l : List ℕ). is_in v l) c.as_slice.ensures.value ∙ among)) c.loop-i.invariant)

pub returns-then-is_empty : goal.returns-then-is_empty
returns-then-is_empty c =
    let empty : (length c.loop-i.pending.items) ≡ 0 = (let a = c.is_empty.ensures in let b = c.if-is_empty.true in let d = c.as_slice-2.ensures.value in grind (arith, nat_tests, a, b, d)) in
    thinned_done c.args.m.now c.args.items.now c.loop-i.last c.loop-i.pending.items c.loop-i.out.items c.loop-i.i c.loop-i.invariant c.loop-i-test.false empty
