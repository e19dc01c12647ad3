use Rattle.std.proofs.Common.{◌≡◌, ◌+◌, ◌++◌, drop}
use Rattle.tta_link.specs.Linked.{starts_from}
use Rattle.tta_link.specs.Blocks.{total_length}
use Rattle.tta_link.proofs.row.starts.Given as goal

abbrev pub invariant-loop-p : goal.invariant-loop-p
invariant-loop-p l = record {
  sum : l.at + total_length (drop l.p-index l.blocks) ≡ total_length l.blocks;
  starts : l.starts.items ++ starts_from l.at (drop l.p-index l.blocks) ≡ starts_from 0 l.blocks;
}
