use Rattle.tta_cost.proofs.Tally.{all_wires}
use Rattle.tta_cost.proofs.wires.put_wires.Goals as goal

pub returns : goal.returns
returns c =
    all_wires c.args.of.now.on.now.applied.now c.args.of.now.on.now.m.now _ _ _ _ _ _ _ c.put_fields.ensures c.put_all_ports.ensures c.put_buses.ensures c.put_all_units.ensures c.put_moves.ensures c.put_goings.ensures
