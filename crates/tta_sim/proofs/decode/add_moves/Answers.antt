use Rattle.tta_sim.proofs.Decoding.{moves-more}
use Rattle.tta_sim.proofs.decode.add_moves.Goals as goal

pub loop-slot-preserved : goal.loop-slot-preserved
loop-slot-preserved c =
    moves-more c.args.m.now c.args.back c.as_slice-slot-items.result.now c.loop-slot.slot-index _ c.loop-slot.line _ c.loop-slot-test.true c.loop-slot.invariant c.in_ok-add_move.ensures
