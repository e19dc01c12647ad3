use Rattle.std.proofs.Common.{◌≡◌, ◌≤◌, ◌-◌, ◌++◌}
use Rattle.tta_play.specs.Cited.{State, Stands}
use Rattle.tta_play.specs.States.{operand_word, words_text}
use Rattle.tta_play.proofs.words.push_operand_words.Given as goal

abbrev pub decreases-operands : goal.decreases-operands
decreases-operands l = l.units - l.unit

abbrev pub invariant-operands : goal.invariant-operands
invariant-operands l = record {
  most : l.unit ≤ l.units;
  put : (s : State) → Stands l.sim s → l.out.items ++ words_text (operand_word s) l.unit (l.units - l.unit)
      ≡ l.initial.out.items ++ words_text (operand_word s) 0 l.units;
}
