use Rattle.tta_arch.proofs.CodeLists.{pieces_more}
use Rattle.tta_inspect.specs.Remarks.{block_remark}
use Rattle.tta_inspect.proofs.remarking.push_remarks.Goals as goal

pub loop-k-preserved : goal.loop-k-preserved
loop-k-preserved c =
    let on = c.args.on.now in
    pieces_more (λ b. block_remark on.program.now on.parts.now on.starts.now b.0 b.1) _ _ _ on.placed.now c.loop-k.k c.b-item.result c.loop-k-test.true c.b-item.is
    c.in_ok-push_remark.ensures c.loop-k.invariant
