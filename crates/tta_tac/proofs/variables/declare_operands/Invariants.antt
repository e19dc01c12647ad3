use Rattle.std.proofs.Common.{◌≡◌, ◌+◌, ◌≤◌, ◌^◌, length, drop}
use Rattle.tta_tac.specs.FirstPass.{with_operands}
use Rattle.tta_tac.specs.Seen.{operands_in}
use Rattle.tta_tac.proofs.variables.declare_operands.Given as goal

abbrev pub invariant-loop-word : goal.invariant-loop-word
invariant-loop-word l = record {
  rest : with_operands l.vars (operands_in (drop l.word-index l.words)) ≡ with_operands l.fn.vars (operands_in l.words);
  room : length l.vars + length (operands_in (drop l.word-index l.words)) ≤ 2 ^ 32;
}
