use Rattle.tta_stages.specs.Cited.{stated}
use Rattle.tta_arch.proofs.CodeLists.{pieces_more}
use Rattle.tta_stages.specs.ListText.{block_lists_text}
use Rattle.tta_stages.proofs.text.lists.push_lists.Goals as goal

pub loop-k-preserved : goal.loop-k-preserved
loop-k-preserved g c =
    let U = stated (λ v. (goal.OpUnit-dyn g v).unit_meaning v.1) c.args.units.now in
    pieces_more (λ x. block_lists_text U c.args.of.now.m.now c.args.of.now.p.now c.args.of.now.parts.now x.0 c.args.trails.now x.1) _ _ _ c.args.lists.now c.loop-k.k c.index-lists-k.result c.loop-k-test.true
    c.index-lists-k.is c.in_ok-push_block_lists.ensures c.loop-k.invariant
