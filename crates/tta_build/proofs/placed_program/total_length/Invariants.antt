use Rattle.std.proofs.Common.{◌≡◌, ◌+◌, ◌≤◌, drop, ◌*◌}
use Rattle.tta_build.specs.Cited.{total_length}
use Rattle.tta_build.proofs.placed_program.total_length.Given as goal

abbrev pub invariant-loop-p : goal.invariant-loop-p
invariant-loop-p l = record {
  sum : l.total + total_length (drop l.p-index l.ps) ≡ total_length l.ps;
  small : l.total ≤ l.p-index * 4294967296;
}
