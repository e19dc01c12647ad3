use Rattle.std.proofs.Common.{arith}
use Rattle.tta_alloc.proofs.KeptLemmas.{held_more}
use Rattle.tta_alloc.proofs.kept.kept_over.Goals as goal

pub loop-at-preserved : goal.loop-at-preserved
loop-at-preserved c =
    held_more c.args.body.now c.requires c.loop-at.at c.loop-at.kept c.loop-at.room c.add_kept.new.kept c.add_kept.new.room
    (let t = c.loop-at-test.true in let e = c.len-at-end.ensures in omega arith) c.loop-at.invariant c.add_kept.ensures.kept c.add_kept.ensures.room
