use Rattle.tta_draw.specs.Results.{started_in}
use Rattle.tta_arch.proofs.CodeLists.{pieces_more}
use Rattle.tta_draw.proofs.results.push_results.Goals as goal

pub loop-row-preserved : goal.loop-row-preserved
loop-row-preserved c =
    pieces_more (λ i. started_in c.args.m.now c.args.unit i.0 i.1) _ _ _ c.args.words.now c.loop-row.row c.index-words-row.result c.loop-row-test.true c.index-words-row.is
    c.in_ok-push_all_started.ensures c.loop-row.invariant
