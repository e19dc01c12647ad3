use Rattle.std.proofs.Common.{◌≡◌, ◌++◌, drop}
use Rattle.std.specs.List.{flat_map}
use Rattle.tta_draw.specs.CodePicture.{arrow_text}
use Rattle.tta_draw.proofs.guides.push_all_arrows.Given as goal

abbrev pub invariant-loop-arrow : goal.invariant-loop-arrow
invariant-loop-arrow l = l.out.items ++ flat_map arrow_text (drop l.arrow-index l.arrows) ≡ l.initial.out.items ++ flat_map arrow_text l.arrows
