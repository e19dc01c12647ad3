use Rattle.tta_draw.specs.Cited.{stated}
use Rattle.tta_draw.specs.MachinePicture.{bus_text}
use Rattle.tta_arch.proofs.CodeLists.{pieces_more}
use Rattle.tta_draw.proofs.machine_picture.push_buses.Goals as goal

pub loop-bus-preserved : goal.loop-bus-preserved
loop-bus-preserved g c =
    let U = stated (λ v. (goal.OpUnit-dyn g v).unit_meaning v.1) c.args.set.now in
    pieces_more (λ b. bus_text U c.args.m.now b.0 b.1) _ _ _ c.args.buses.now c.loop-bus.bus c.index-buses-bus.result c.loop-bus-test.true c.index-buses-bus.is
    c.in_ok-push_bus.ensures c.loop-bus.invariant
