use Rattle.tta_input.proofs.GrammarHolds.{input_of-grammar}
use Rattle.tta_input.proofs.law.lines_are_words.Goals as goal

pub returns : goal.returns
returns c = input_of-grammar
