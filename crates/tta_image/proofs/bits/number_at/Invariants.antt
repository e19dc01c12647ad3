use Rattle.std.proofs.Common.{◌≡◌, ◌-◌, ◌≤◌}
use Rattle.tta_image.specs.Decoding.{bits_in, field}
use Rattle.tta_image.proofs.bits.number_at.Given as goal

abbrev pub invariant-loop-done : goal.invariant-loop-done
invariant-loop-done l = record {
  number : l.number ≡ field l.at l.done (bits_in l.bytes);
  done : l.done ≤ l.width;
}

abbrev pub decreases-loop-done : goal.decreases-loop-done
decreases-loop-done l = l.width - l.done
