use Rattle.std.proofs.Common.{◌≡◌, ◌+◌, ◌≤◌, length, drop}
use Rattle.tta_tac.specs.Seen.{operands_in}
use Rattle.tta_tac.proofs.variables.count_operands.Given as goal

abbrev pub invariant-loop-word : goal.invariant-loop-word
invariant-loop-word l = record {
  rest : l.count + length (operands_in (drop l.word-index l.words)) ≡ length (operands_in l.words);
  most : l.count ≤ l.word-index;
}
