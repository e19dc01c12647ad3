use Rattle.std.proofs.Common.{◌≡◌, ◌++◌, take}
use Rattle.std.specs.List.{flat_map}
use Rattle.tta_image.specs.Bits.{instruction_bits}
use Rattle.tta_image.proofs.write.push_words.Given as goal

abbrev pub invariant-loop-i : goal.invariant-loop-i
invariant-loop-i l = l.sink ≡ l.initial.sink ++ flat_map (instruction_bits l.m) (take l.i-index l.words)
