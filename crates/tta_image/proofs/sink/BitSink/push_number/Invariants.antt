use Rattle.std.proofs.Common.{◌≡◌, ◌++◌}
use Rattle.tta_image.specs.Bits.{bits_of}
use Rattle.tta_image.proofs.sink.BitSink.push_number.Given as goal

abbrev pub invariant-loop-left : goal.invariant-loop-left
invariant-loop-left l = l.self ++ bits_of l.left l.number ≡ l.initial.self ++ bits_of l.width l.number

abbrev pub decreases-loop-left : goal.decreases-loop-left
decreases-loop-left l = l.left
