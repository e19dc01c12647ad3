use Rattle.std.proofs.Common.{◌≡◌, ◌++◌, [], false, if◌then◌else◌}
use Rattle.std.specs.Prelude.{slice_index_or}
use Rattle.std.specs.List.{flat_map}
use Rattle.tta_draw.specs.Cited.{numbers}
use Rattle.tta_draw.specs.CodePicture.{label_row_text}
use Rattle.tta_draw.proofs.guides.push_all_labels.Given as goal

abbrev pub invariant-loop-row : goal.invariant-loop-row
invariant-loop-row l = l.out.items ≡ l.initial.out.items ++ flat_map (λ row. if slice_index_or l.labels row false then label_row_text row else []) (numbers l.row)
