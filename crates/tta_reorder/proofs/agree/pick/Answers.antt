use Rattle.std.proofs.Common.{ℕ, sym, refl, get_or}
use Rattle.tta_reorder.proofs.Checked.{pick_next, pick_none}
use Rattle.tta_reorder.proofs.agree.pick.Goals as goal
use Rattle.tta_reorder.proofs.agree.pick.Goals.{in-Some+in_ok-push, in_default}

pub loop-n-preserved : goal.loop-n-preserved
loop-n-preserved c =
    let n : ℕ = get_or c.args.numbers.now c.loop-n.n-index 0 in
    elim c.match-item_at.branch [
      | in-Some+in_ok-push w ↦ rw (w.out-is, w.in_ok-push.ensures.items) (pick_next c.args.items.now c.args.numbers.now c.loop-n.out.items c.loop-n.n-index n w.in-Some.x c.loop-n-test.true refl (sym w.in-Some.ensures) c.loop-n.invariant)
      | in_default w ↦ rw w.out-is (pick_none c.args.items.now c.args.numbers.now c.loop-n.out.items c.loop-n.n-index n c.loop-n-test.true refl (sym w.in_default.ensures) c.loop-n.invariant)
    ]
