use Rattle.tta_arch.proofs.CodeLists.{pieces_more}
use Rattle.tta_profile.specs.Report.{unit_text}
use Rattle.tta_profile.proofs.uses.push_units.Goals as goal

pub loop-unit-preserved : goal.loop-unit-preserved
loop-unit-preserved c =
    pieces_more (λ q. unit_text c.args.profiled.now.counts.now c.args.profiled.now.words.now c.args.profiled.now.whole q.0 q.1) _ _ _ c.args.units.now c.loop-unit.unit c.index-units-unit.result c.loop-unit-test.true c.index-units-unit.is
    c.in_ok-push_unit.ensures c.loop-unit.invariant
