use Rattle.std.proofs.Common.{◌≡◌, ◌++◌, take}
use Rattle.std.specs.List.{flat_map}
use Rattle.tta_image.specs.Image.{datum_bytes}
use Rattle.tta_image.proofs.write.push_pairs.Given as goal

abbrev pub invariant-loop-datum : goal.invariant-loop-datum
invariant-loop-datum l = l.bytes.items ≡ l.initial.bytes.items ++ flat_map datum_bytes (take l.datum-index l.init)
