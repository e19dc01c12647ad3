use Rattle.std.proofs.Common.{◌<◌, ◌+◌, ◌-◌, ℕ, List, ◌++◌, sym, ap, ◌∙◌, arith}
use Rattle.std.proofs.lemmas.List.{append-nil}
use Rattle.tta_list.proofs.Lists.{then_more}
use Rattle.tta_list.proofs.Results.{onward}
use Rattle.tta_divider_rtl.specs.Pieces.{digits_text}
use Rattle.tta_divider_rtl.proofs.Cuts.{digit_text, digits_more, no_digits}
use Rattle.tta_divider_rtl.proofs.digits.+push_wires_of.Goals as goal

pub returns : goal.returns
returns t c =
    let stage = c.args.stage in
    let number = c.args.number in
    let some : 0 < c.args.count = omega (arith, c.if-count-eq0.false) in
    onward c.push_wires_of.result (λ last.
    then_more _ _ _ (digit_text stage number) (digits_text stage (number + 5) (c.args.count - 1)) c.in_ok-push_digit_wires.ensures last
    ∙ ap (λ (text : List ℕ). c.args.out.now.items ++ text) (sym (digits_more stage number c.args.count some)))
    c.push_wires_of.ensures

pub returns-then-count-eq0 : goal.returns-then-count-eq0
returns-then-count-eq0 t c =
    let old = c.args.out.now.items in
    sym (append-nil old) ∙ ap (λ (text : List ℕ). old ++ text) (sym (no_digits c.args.stage c.args.number))
    ∙ ap (λ (n : ℕ). old ++ digits_text c.args.stage c.args.number n) (sym c.if-count-eq0.true)
