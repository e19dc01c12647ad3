use Rattle.std.proofs.Common.{◌≡◌, ◌+◌, ◌≤◌, length}
use Rattle.tta_asm.specs.Init.{data_from}
use Rattle.tta_asm.proofs.init.take_data.Given as goal

-- the pieces left give after the data so far what all pieces give after those before
abbrev pub invariant-loop-closed : goal.invariant-loop-closed
invariant-loop-closed l = record {
  rest : data_from l.space l.least l.init l.pieces ≡ data_from l.space 0 l.initial.init l.initial.pieces;
  few : length l.init + length l.pieces ≤ length l.initial.init + length l.initial.pieces;
}

-- each turn takes a piece
abbrev pub decreases-loop-closed : goal.decreases-loop-closed
decreases-loop-closed l = length l.pieces
