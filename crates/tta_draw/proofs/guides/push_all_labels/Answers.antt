use Rattle.std.proofs.Common.{[], false, if◌then◌else◌}
use Rattle.std.specs.Prelude.{slice_index_or}
use Rattle.tta_draw.specs.CodePicture.{label_row_text}
use Rattle.tta_draw.proofs.guides.push_all_labels.Goals as goal
use Rattle.tta_list.proofs.Lists.{number_more}

pub loop-row-preserved : goal.loop-row-preserved
loop-row-preserved c =
    number_more (λ row. if slice_index_or c.args.labels.now row false then label_row_text row else []) _ _ _ c.loop-row.row
    c.in_ok-push_label_if.ensures c.loop-row.invariant
