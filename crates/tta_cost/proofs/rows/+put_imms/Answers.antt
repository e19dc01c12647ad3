use Rattle.tta_cost.specs.Rows.{imm_row}
use Rattle.tta_cost.proofs.RowSteps.{lists_of}
use Rattle.tta_cost.proofs.rows.+put_imms.Goals as goal

pub returns-in-len1-up : goal.returns-in-len1-up
returns-in-len1-up t c =
    lists_of c.args.of.now.on.now.applied.now c.args.of.now.on.now.m.now imm_row c.args.unit c.args.imms.now c.i-item.result _ _ _ _
    c.in-len1-up.len_at_least c.i-item.is c.put_row.ensures c.put_imms.ensures
