use Rattle.tta_cost.proofs.Tally.{all_registers}
use Rattle.tta_cost.proofs.rows.put_registers.Goals as goal

pub returns : goal.returns
returns c =
    all_registers c.args.of.now.on.now.applied.now c.args.of.now.on.now.m.now _ _ _ _ _ _ c.put_all_files.ensures c.put_all_imms.ensures c.put_all_units.ensures c.put_underways.ensures c.put_fixed.ensures
