use Rattle.std.proofs.Common.{◌≡◌, ◌+◌, ◌≤◌, ◌++◌, length, drop}
use Rattle.tta_tac.specs.FirstPass.{srcs_of}
use Rattle.tta_tac.specs.Seen.{operands_in}
use Rattle.tta_tac.proofs.variables.args_of.Given as goal

abbrev pub invariant-loop-word : goal.invariant-loop-word
invariant-loop-word l = record {
  rest : l.args ++ srcs_of l.vars (operands_in (drop l.word-index l.words)) ≡ srcs_of l.vars (operands_in l.words);
  room : length l.args + length (operands_in (drop l.word-index l.words)) ≤ 8;
}
