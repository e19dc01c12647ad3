use Rattle.std.proofs.Common.{◌≡◌, drop, length}
use Rattle.tta_depend.specs.Rows.{change, with_read}
use Rattle.tta_depend.proofs.rows.enter_reads.Given as goal

abbrev pub invariant-loop-t : goal.invariant-loop-t
invariant-loop-t l = record {
  rows : change (with_read l.round l.cycle) (drop l.t-index l.touches) l.rows.items ≡ change (with_read l.round l.cycle) l.touches l.fn.rows.items;
  size : length l.rows.items ≡ length l.fn.rows.items;
}
