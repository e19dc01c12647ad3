use Rattle.tta_draw.specs.CodePicture.{bus_column_text}
use Rattle.tta_arch.proofs.CodeLists.{pieces_more}
use Rattle.tta_draw.proofs.code_picture.push_bus_columns.Goals as goal

pub loop-bus-preserved : goal.loop-bus-preserved
loop-bus-preserved c =
    pieces_more (λ b. bus_column_text c.args.sizes b.0 b.1) _ _ _ c.args.buses.now c.loop-bus.bus c.index-buses-bus.result c.loop-bus-test.true c.index-buses-bus.is
    c.in_ok-push_bus_column.ensures c.loop-bus.invariant
