use Rattle.tta_cost.specs.Cited.{unit_wires}
use Rattle.tta_cost.proofs.WireSteps.{list_step}
use Rattle.tta_cost.proofs.wires.+put_units.Goals as goal

pub returns-in-len1-up : goal.returns-in-len1-up
returns-in-len1-up t c =
    list_step c.args.on.now.applied.now c.args.on.now.m.now unit_wires c.args.unit c.args.units.now c.u-item.result _ _ _ _
    c.in-len1-up.len_at_least c.u-item.is c.put_unit.ensures c.put_units.ensures
