use Rattle.std.proofs.Common.{◌≡◌, ◌≤◌, drop}
use Rattle.tta_draw.specs.MachinePlaces.{most_from, most_lines}
use Rattle.tta_draw.proofs.machine_places.most_lines.Given as goal

abbrev pub invariant-loop-u : goal.invariant-loop-u
invariant-loop-u l = record {
  most : most_from l.most (drop l.u-index l.units) ≡ most_lines l.units;
  few : l.most ≤ 256;
}
