use Rattle.std.proofs.Common.{◌++◌, length, false, ap, ◌∙◌}
use Rattle.std.specs.Prelude.{slice_index_or}
use Rattle.tta_draw.proofs.Rows.{labels-same}
use Rattle.tta_list.proofs.Results.{onward}
use Rattle.tta_draw.proofs.guides.push_labels.Goals as goal

pub returns : goal.returns
returns c =
    let same = c.as_slice.ensures.value in
    onward c.push_all_labels.result
    (λ put. put ∙ ap (λ t. c.args.out.now.items ++ t)
    (labels-same c.as_slice.result.now c.args.spans.now c.args.rows (ap length same ∙ c.in_ok-labels.ensures.size)
    (λ row h. ap (λ l. slice_index_or l row false) same ∙ c.in_ok-labels.ensures.labels row h))) c.push_all_labels.ensures
