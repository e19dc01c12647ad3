use Rattle.tta_cost.specs.Cited.{unit_registers}
use Rattle.tta_cost.proofs.RowSteps.{lists_of}
use Rattle.tta_cost.proofs.rows.+put_units.Goals as goal

pub returns-in-len1-up : goal.returns-in-len1-up
returns-in-len1-up t c =
    lists_of c.args.of.now.on.now.applied.now c.args.of.now.on.now.m.now (unit_registers c.args.of.now.on.now.m.now) c.args.unit c.args.units.now c.u-item.result _ _ _ _
    c.in-len1-up.len_at_least c.u-item.is c.put_unit.ensures c.put_units.ensures
