use Rattle.std.proofs.Common.{◌≡◌, ◌++◌, take}
use Rattle.std.specs.List.{flat_map}
use Rattle.tta_info.specs.Parts.{file_text}
use Rattle.tta_info.proofs.parts.push_files.Given as goal

abbrev pub invariant-loop-f : goal.invariant-loop-f
invariant-loop-f l = l.out.items ≡ l.initial.out.items ++ flat_map file_text (take l.f-index l.files)
