use Rattle.std.proofs.Common.{◌≡◌, ◌≤◌, ◌++◌, drop, length}
use Rattle.std.specs.Prelude.{map}
use Rattle.tta_places.specs.Cited.{Written, State, HasWritten}
use Rattle.tta_places.specs.Carried.{carried}
use Rattle.tta_places.specs.Writes.{moves_write}
use Rattle.tta_places.proofs.writing.write_moves.Given as goal

abbrev pub invariant-loop-i : goal.invariant-loop-i
invariant-loop-i l = record {
  within : l.i ≤ length l.slots;
  written : (s : State) (ws : Written) → l.words ≡ map (carried s) l.slots → HasWritten l.initial.row ws → HasWritten l.row (moves_write l.m l.back s (drop l.i l.slots) ++ ws);
}

abbrev pub decreases-loop-i : goal.decreases-loop-i
decreases-loop-i l = l.i
