use Rattle.std.proofs.Common.{[]}
use Rattle.tta_arch.proofs.CodeLists.{pieces_more}
use Rattle.tta_connect.specs.Coverage.{is_usable_at}
use Rattle.tta_info.specs.Lines.{named_if}
use Rattle.tta_info.proofs.chosen.push_usable_names.Goals as goal

pub loop-unit-preserved : goal.loop-unit-preserved
loop-unit-preserved c =
    pieces_more (λ q. named_if (is_usable_at c.args.m.now c.args.hub q.0) q.1.name []) _ _ _ c.args.units.now c.loop-unit.unit c.index-units-unit.result c.loop-unit-test.true
    c.index-units-unit.is c.in_ok-push_usable_name.ensures c.loop-unit.invariant
