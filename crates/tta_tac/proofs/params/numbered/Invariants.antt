use Rattle.std.proofs.Common.{◌≡◌, ◌++◌, false, length, drop}
use Rattle.tta_tac.specs.Cited.{texts}
use Rattle.tta_tac.specs.FirstPass.{numbered}
use Rattle.tta_tac.proofs.Twice.{is_twice_after}
use Rattle.tta_tac.proofs.params.numbered.Given as goal

abbrev pub invariant-loop-word : goal.invariant-loop-word
invariant-loop-word l = record {
  rest : l.vars ++ numbered (length l.vars) (texts (drop l.word-index l.words)) ≡ numbered 0 (texts l.words);
  once : is_twice_after l.vars (texts (drop l.word-index l.words)) ≡ false;
  index : length l.vars ≡ l.word-index;
}
