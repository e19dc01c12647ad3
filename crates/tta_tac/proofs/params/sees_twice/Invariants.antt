use Rattle.std.proofs.Common.{◌≡◌, drop}
use Rattle.tta_tac.specs.Cited.{texts}
use Rattle.tta_tac.specs.FirstPass.{has_twice}
use Rattle.tta_tac.proofs.Twice.{is_twice_after}
use Rattle.tta_tac.proofs.params.sees_twice.Given as goal

abbrev pub invariant-loop-word : goal.invariant-loop-word
invariant-loop-word l = is_twice_after l.seen (texts (drop l.word-index l.words)) ≡ has_twice (texts l.words)
