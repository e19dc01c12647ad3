use Rattle.tta_arch.proofs.CodeLists.{pieces_more}
use Rattle.tta_info.specs.Buses.{bus_at_text}
use Rattle.tta_info.proofs.buses.push_buses.Goals as goal

pub loop-bus-preserved : goal.loop-bus-preserved
loop-bus-preserved c =
    pieces_more (λ f. bus_at_text c.args.m.now f.0 f.1) _ _ _ c.args.fields.now c.loop-bus.bus c.index-fields-bus.result c.loop-bus-test.true c.index-fields-bus.is
    c.in_ok-push_bus_at.ensures c.loop-bus.invariant
