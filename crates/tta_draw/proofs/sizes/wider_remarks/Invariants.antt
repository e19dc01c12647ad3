use Rattle.std.proofs.Common.{◌≡◌, ◌≤◌, drop}
use Rattle.tta_draw.specs.CodeWidths.{wider_remarks}
use Rattle.tta_draw.proofs.sizes.wider_remarks.Given as goal

abbrev pub invariant-loop-r : goal.invariant-loop-r
invariant-loop-r l = record {
  rest : wider_remarks l.widest (drop l.r-index l.remarks) ≡ wider_remarks l.width l.remarks;
  few : l.widest ≤ 7008;
}
