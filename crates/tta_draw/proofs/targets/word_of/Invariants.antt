use Rattle.std.proofs.Common.{◌≡◌, drop}
use Rattle.tta_draw.specs.ImmediateWord.{known_word}
use Rattle.tta_draw.proofs.targets.word_of.Given as goal

abbrev pub invariant-loop-k : goal.invariant-loop-k
invariant-loop-k l = known_word (drop l.k-index l.known) l.unit l.index ≡ known_word l.known l.unit l.index
