use Rattle.std.proofs.Common.{◌≡◌, ◌-◌, ◌++◌, None, drop, get_or, subst, arith}
use Rattle.tta_places.specs.Cited.{HasWritten}
use Rattle.tta_places.specs.Writes.{moves_write, slot_writes}
use Rattle.tta_places.proofs.Wrote.{moves_next}
use Rattle.tta_places.proofs.writing.write_moves.Goals as goal

pub loop-i-preserved : goal.loop-i-preserved
loop-i-preserved c = record {
  within = omega (arith, c.loop-i.invariant.within);
  written = λ s ws are had.
      moves_next c.args.m.now c.args.back s c.args.slots.now c.args.words.now c.loop-i.i None _ _ ws c.loop-i-test.true c.loop-i.invariant.within are
      (λ rest before.
      subst (λ o. HasWritten c.write_slot.new.row (slot_writes c.args.m.now c.args.back (get_or c.args.slots.now (c.loop-i.i - 1) None) o ++ rest)) c.word_of.ensures
      (c.write_slot.ensures rest before)) (c.loop-i.invariant.written s ws are had);
}

pub returns : goal.returns
returns c = λ s ws are had.
    let over : c.loop-i.i ≡ 0 = omega (arith, c.loop-i-test.false) in
    subst (λ n. HasWritten c.loop-i.row (moves_write c.args.m.now c.args.back s (drop n c.args.slots.now) ++ ws)) over (c.loop-i.invariant.written s ws are had)
