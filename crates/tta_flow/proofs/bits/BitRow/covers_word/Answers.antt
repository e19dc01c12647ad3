use Rattle.std.proofs.Common.{ℕ, get_or, ◌∙◌, sym, ap}
use Rattle.std.specs.Prelude.{bit_or}
use Rattle.std.proofs.lemmas.Bool.{eqb-true}
use Rattle.tta_flow.proofs.GrowthLemmas.{covered}
use Rattle.tta_flow.proofs.bits.BitRow.covers_word.Goals as goal

pub returns-clause-all : goal.returns-clause-all
returns-clause-all c = λ t.
    covered c.args.self.now.words.items c.args.other.now.words.items c.args.at
    (ap (λ (n : ℕ). bit_or n (get_or c.args.other.now.words.items c.args.at 0)) (sym c.word-word.ensures) ∙ ap (λ (n : ℕ). bit_or c.word-word.result n) (sym c.word.ensures)
    ∙ sym c.joined.ensures ∙ eqb-true c.joined.result c.word-word.result t ∙ c.word-word.ensures)
