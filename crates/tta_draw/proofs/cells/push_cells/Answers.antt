use Rattle.std.proofs.lemmas.List.{get_or_default}
use Rattle.tta_draw.specs.Cited.{stated}
use Rattle.tta_draw.specs.CodePicture.{slot_text}
use Rattle.tta_draw.specs.CodePlaces.{cell_frame}
use Rattle.tta_arch.proofs.CodeLists.{pieces_more}
use Rattle.tta_draw.proofs.cells.push_cells.Goals as goal

pub loop-bus-preserved : goal.loop-bus-preserved
loop-bus-preserved g c =
    let U = stated (λ v. (goal.OpUnit-dyn g v).unit_meaning v.1) c.args.units.now in
    let at = c.args.at in
    pieces_more (λ o. slot_text U c.args.m.now (cell_frame at.sizes at.row o.0) o.1) _ _ _ c.args.slots.now c.loop-bus.bus _ c.loop-bus-test.true (get_or_default c.args.slots.now c.loop-bus.bus _ _ c.loop-bus-test.true)
    c.in_ok-push_cell.ensures c.loop-bus.invariant
