use Rattle.std.proofs.Common.{◌≡◌, ◌+◌, ◌++◌, drop}
use Rattle.tta_stages.specs.Cited.{starts_from, total_length}
use Rattle.tta_stages.proofs.starts.block_starts.Given as goal

abbrev pub invariant-loop-p : goal.invariant-loop-p
invariant-loop-p l = record {
  starts : l.starts.items ++ starts_from l.next (drop l.p-index l.placed) ≡ starts_from 0 l.placed;
  length : l.next + total_length (drop l.p-index l.placed) ≡ total_length l.placed;
}
