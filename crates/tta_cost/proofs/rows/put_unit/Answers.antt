use Rattle.tta_cost.proofs.Tally.{unit_put}
use Rattle.tta_cost.proofs.rows.put_unit.Goals as goal

pub returns : goal.returns
returns c =
    unit_put c.args.of.now.on.now.applied.now c.args.of.now.on.now.m.now c.args.unit c.args.u.now _ _ _ _ _ c.put_ports.ensures c.put_dues.ensures c.put_due_words.ensures c.put_all_loads.ensures
