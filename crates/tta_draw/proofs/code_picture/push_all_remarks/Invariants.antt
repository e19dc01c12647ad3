use Rattle.std.proofs.Common.{◌≡◌, ◌++◌, drop}
use Rattle.std.specs.List.{flat_map}
use Rattle.tta_draw.specs.CodePicture.{remark_text}
use Rattle.tta_draw.proofs.code_picture.push_all_remarks.Given as goal

abbrev pub invariant-loop-r : goal.invariant-loop-r
invariant-loop-r l = l.out.items ++ flat_map remark_text (drop l.r-index l.remarks) ≡ l.initial.out.items ++ flat_map remark_text l.remarks
