use Rattle.std.proofs.Common.{◌≡◌, ◌≤◌, ◌++◌, None, slice_index_or, drop, length}
use Rattle.tta_sim.specs.Cited.{Written}
use Rattle.tta_sim.specs.Known.{Grows}
use Rattle.tta_sim.specs.Places.{HasWritten}
use Rattle.tta_sim.specs.Writing.{numbered, ArePlaces}
use Rattle.tta_sim.proofs.writing.write_all.Given as goal

abbrev pub invariant-loop-i : goal.invariant-loop-i
invariant-loop-i l = record {
  within : l.i ≤ length l.writes;
  written : (new old : Written) → l.writes ≡ numbered new → ArePlaces new → HasWritten l.fn.places old → HasWritten l.places (drop l.i new ++ old);
  grows : Grows (λ k. slice_index_or l.fn.places k None) (λ k. slice_index_or l.places k None);
}

abbrev pub decreases-loop-i : goal.decreases-loop-i
decreases-loop-i l = l.i
