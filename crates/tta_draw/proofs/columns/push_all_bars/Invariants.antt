use Rattle.std.proofs.Common.{◌≡◌, ◌++◌, drop}
use Rattle.std.specs.List.{flat_map}
use Rattle.tta_draw.specs.CodePicture.{bar_text}
use Rattle.tta_draw.proofs.columns.push_all_bars.Given as goal

abbrev pub invariant-loop-l : goal.invariant-loop-l
invariant-loop-l l =
    l.out.items ++ flat_map (bar_text l.at.unit l.at.left) (drop l.l-index l.laid) ≡ l.initial.out.items ++ flat_map (bar_text l.at.unit l.at.left) l.laid
