use Rattle.tta_cost.proofs.WireSteps.{all_fields_put}
use Rattle.tta_cost.proofs.wires.put_fields.Goals as goal

pub returns : goal.returns
returns c =
    all_fields_put c.args.on.now.applied.now c.args.on.now.m.now _ _ _ _ c.put_all_fields.ensures c.put_template.ensures c.put_long.ensures
