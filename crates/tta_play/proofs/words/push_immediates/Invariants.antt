use Rattle.std.proofs.Common.{◌≡◌, ◌≤◌, ◌-◌, ◌++◌}
use Rattle.tta_play.specs.Cited.{State, Stands}
use Rattle.tta_play.specs.States.{immediate_word, words_text}
use Rattle.tta_play.proofs.words.push_immediates.Given as goal

abbrev pub decreases-registers : goal.decreases-registers
decreases-registers l = l.size - l.index

abbrev pub invariant-registers : goal.invariant-registers
invariant-registers l = record {
  most : l.index ≤ l.size;
  put : (s : State) → Stands l.sim s → l.out.items ++ words_text (immediate_word s l.unit) l.index (l.size - l.index)
      ≡ l.initial.out.items ++ words_text (immediate_word s l.unit) 0 l.size;
}
