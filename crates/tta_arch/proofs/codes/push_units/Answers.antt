use Rattle.tta_arch.specs.Layout.{dests_of_unit}
use Rattle.tta_arch.proofs.CodeLists.{pieces_more}
use Rattle.tta_arch.proofs.codes.push_units.Goals as goal

pub loop-unit-preserved : goal.loop-unit-preserved
loop-unit-preserved c =
    pieces_more (λ u. dests_of_unit u.0 u.1) _ _ _ c.args.units.now c.loop-unit.unit c.index-units-unit.result c.loop-unit-test.true c.index-units-unit.is c.in_ok-push_unit.ensures.ok c.loop-unit.invariant
