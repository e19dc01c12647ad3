use Rattle.std.proofs.Common.{◌≡◌, ◌+◌, ◌*◌, ◌≤◌, drop}
use Rattle.tta_draw.specs.CodeWidths.{after_columns}
use Rattle.tta_draw.proofs.sizes.after_columns.Given as goal

abbrev pub invariant-loop-u : goal.invariant-loop-u
invariant-loop-u l = record {
  rest : after_columns l.next (drop l.u-index l.units) ≡ after_columns l.left l.units;
  few : l.next ≤ l.left + 7016 * l.u-index;
}
