use Rattle.tta_arch.proofs.CodeLists.{pieces_more}
use Rattle.tta_profile.specs.Report.{bus_text}
use Rattle.tta_profile.proofs.uses.push_buses.Goals as goal

pub loop-bus-preserved : goal.loop-bus-preserved
loop-bus-preserved c =
    pieces_more (λ b. bus_text c.args.profiled.now.counts.now c.args.profiled.now.words.now c.args.profiled.now.whole b.0 b.1) _ _ _ c.args.buses.now c.loop-bus.bus c.index-buses-bus.result c.loop-bus-test.true c.index-buses-bus.is
    c.in_ok-push_bus.ensures c.loop-bus.invariant
