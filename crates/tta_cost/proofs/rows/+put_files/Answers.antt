use Rattle.tta_cost.specs.Rows.{file_row}
use Rattle.tta_cost.proofs.RowSteps.{lists_of}
use Rattle.tta_cost.proofs.rows.+put_files.Goals as goal

pub returns-in-len1-up : goal.returns-in-len1-up
returns-in-len1-up t c =
    lists_of c.args.of.now.on.now.applied.now c.args.of.now.on.now.m.now file_row c.args.file c.args.files.now c.f-item.result _ _ _ _
    c.in-len1-up.len_at_least c.f-item.is c.put_row.ensures c.put_files.ensures
