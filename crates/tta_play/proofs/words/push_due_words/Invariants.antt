use Rattle.std.proofs.Common.{◌≡◌, ◌≤◌, ◌+◌, ◌-◌, ◌++◌}
use Rattle.tta_play.specs.Cited.{State, Stands}
use Rattle.tta_play.specs.States.{due_word, words_text}
use Rattle.tta_play.proofs.words.push_due_words.Given as goal

abbrev pub decreases-delays : goal.decreases-delays
decreases-delays l = l.cycles - l.passed

abbrev pub invariant-delays : goal.invariant-delays
invariant-delays l = record {
  most : l.passed ≤ l.cycles;
  put : (s : State) → Stands l.sim s → l.out.items ++ words_text (due_word s l.unit) (l.passed + 1) (l.cycles - l.passed)
      ≡ l.initial.out.items ++ words_text (due_word s l.unit) 1 l.cycles;
}
