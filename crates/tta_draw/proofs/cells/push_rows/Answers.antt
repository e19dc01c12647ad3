use Rattle.tta_draw.specs.Cited.{stated}
use Rattle.tta_draw.specs.CodePicture.{row_text}
use Rattle.tta_arch.proofs.CodeLists.{pieces_more}
use Rattle.tta_draw.proofs.cells.push_rows.Goals as goal

pub loop-row-preserved : goal.loop-row-preserved
loop-row-preserved g c =
    let U = stated (λ v. (goal.OpUnit-dyn g v).unit_meaning v.1) c.args.units.now in
    pieces_more (λ i. row_text U c.args.m.now c.args.sizes i.0 i.1) _ _ _ c.args.words.now c.loop-row.row c.index-words-row.result c.loop-row-test.true c.index-words-row.is
    c.in_ok-push_row.ensures c.loop-row.invariant
