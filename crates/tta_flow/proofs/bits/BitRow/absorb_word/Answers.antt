use Rattle.std.proofs.Common.{ℕ, set, ◌∙◌, sym, ap}
use Rattle.std.specs.Prelude.{bit_or}
use Rattle.std.proofs.lemmas.List.{length-set}
use Rattle.tta_flow.proofs.BitLemmas.{any_default}
use Rattle.tta_flow.proofs.GrowthLemmas.{bit_in, or_word, or_same, spare_less}
use Rattle.tta_flow.proofs.bits.BitRow.absorb_word.Goals as goal

pub returns-then-both-old-clause-bits : goal.returns-then-both-old-clause-bits
returns-then-both-old-clause-bits c = λ k.
    let words = c.args.self.now.words.items in
    let there = any_default words c.args.at 0 c.index-old.result.now c.requires ∙ sym c.index-old.ensures in
    or_same words c.args.at c.requires c.args.word k
    (ap (λ (n : ℕ). bit_or n c.args.word) there ∙ sym c.joined-both.ensures ∙ c.if-both-old.true ∙ sym there)

pub returns-clause-bits : goal.returns-clause-bits
returns-clause-bits c = λ k.
    let words = c.args.self.now.words.items in
    let there = any_default words c.args.at 0 c.index-old.result.now c.requires ∙ sym c.index-old.ensures in
    ap (λ (w : ℕ). bit_in (set words c.args.at w) k) (c.joined-both.ensures ∙ ap (λ (n : ℕ). bit_or n c.args.word) (sym there))
    ∙ or_word words c.args.at c.requires c.args.word k

pub returns-clause-grows : goal.returns-clause-grows
returns-clause-grows c =
    let words = c.args.self.now.words.items in
    let there = any_default words c.args.at 0 c.index-old.result.now c.requires ∙ sym c.index-old.ensures in
    record {
      room = length-set words c.args.at c.joined-both.result;
      same = λ e. absurd cc;
      less = λ e. spare_less words c.args.at c.args.word c.joined-both.result c.requires
          (c.joined-both.ensures ∙ ap (λ (n : ℕ). bit_or n c.args.word) (sym there)) c.joined-both.type_inv (λ f. c.if-both-old.false (f ∙ there));
    }
