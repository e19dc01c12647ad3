use Rattle.std.proofs.Common.{◌≡◌, drop}
use Rattle.tta_draw.specs.Lanes.{laid_in, with_spans}
use Rattle.tta_draw.proofs.FreeLanes.{AreFree}
use Rattle.tta_draw.proofs.lanes.push_laid.Given as goal

abbrev pub invariant-loop-span : goal.invariant-loop-span
invariant-loop-span l = record {
  rest : with_spans l.lanes l.laid.items (drop l.span-index l.spans) ≡ laid_in l.lanes l.spans;
  free : AreFree l.laid.items l.free;
}
