use Rattle.tta_stages.specs.Cited.{stated}
use Rattle.tta_arch.proofs.CodeLists.{pieces_more}
use Rattle.tta_stages.specs.ListText.{placed_at}
use Rattle.tta_stages.proofs.text.placed.push_blocks.Goals as goal

pub loop-k-preserved : goal.loop-k-preserved
loop-k-preserved g c =
    let U = stated (λ v. (goal.OpUnit-dyn g v).unit_meaning v.1) c.args.units.now in
    pieces_more (λ x. placed_at U c.args.of.now.m.now c.args.of.now.p.now c.args.of.now.parts.now c.args.words.now c.args.starts.now x.0 x.1) _ _ _ c.args.placed.now c.loop-k.k c.index-placed-k.result c.loop-k-test.true
    c.index-placed-k.is c.in_ok-push_placed_at.ensures c.loop-k.invariant
