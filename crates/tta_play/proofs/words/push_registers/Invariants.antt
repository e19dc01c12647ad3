use Rattle.std.proofs.Common.{◌≡◌, ◌≤◌, ◌-◌, ◌++◌}
use Rattle.tta_play.specs.Cited.{State, Stands}
use Rattle.tta_play.specs.States.{register_word, words_text}
use Rattle.tta_play.proofs.words.push_registers.Given as goal

abbrev pub decreases-registers : goal.decreases-registers
decreases-registers l = l.size - l.index

abbrev pub invariant-registers : goal.invariant-registers
invariant-registers l = record {
  most : l.index ≤ l.size;
  put : (s : State) → Stands l.sim s → l.out.items ++ words_text (register_word s l.file) l.index (l.size - l.index)
      ≡ l.initial.out.items ++ words_text (register_word s l.file) 0 l.size;
}
