use Rattle.std.proofs.Common.{◌≡◌, ◌+◌, ◌^◌, ◌≤◌, true, length}
use Rattle.tta_asm.specs.Labels.{labels_from}
use Rattle.tta_asm.proofs.labels.add_labels.Given as goal

-- the labels of the pieces left go on from those so far
abbrev pub invariant-loop-closed : goal.invariant-loop-closed
invariant-loop-closed l = record {
  rest : labels_from l.may_begin l.address l.labels l.pieces ≡ labels_from true 0 l.initial.labels l.initial.pieces;
  few : l.address + length l.pieces ≤ 2 ^ 24 + 2;
}

-- each turn takes a piece
abbrev pub decreases-loop-closed : goal.decreases-loop-closed
decreases-loop-closed l = length l.pieces
