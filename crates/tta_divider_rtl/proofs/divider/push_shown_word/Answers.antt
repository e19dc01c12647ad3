use Rattle.std.proofs.Common.{◌*◌, ℕ, ◌++◌, sym, ap, ◌∙◌}
use Rattle.tta_list.proofs.Results.{onward}
use Rattle.tta_divider_rtl.specs.Cited.{Expr, expression, Kind, Part, stage_cut, shown_of}
use Rattle.tta_divider_rtl.specs.Texts.{divider_names, part_name}
use Rattle.tta_divider_rtl.specs.Pieces.{rest_at, digits_at}
use Rattle.tta_divider_rtl.proofs.Cuts.{stage_rest, stage_digits}
use Rattle.tta_divider_rtl.proofs.divider.push_shown_word.Goals as goal

pub returns-in-Quotient : goal.returns-in-Quotient
returns-in-Quotient c =
    let stages = c.args.stages in
    let old = c.args.out.now.items in
    onward c.push_digits.result (λ put.
    put ∙ ap (λ (n : ℕ). old ++ part_name (digits_at stages (5 * n))) c.made_by-number.ensures.value
    ∙ ap (λ (e : Expr Part ⊥). old ++ expression divider_names e) (sym (stage_digits stages stages))
    ∙ ap (λ (k : Kind). old ++ expression divider_names (shown_of k (stage_cut stages stages))) (sym c.in-Quotient.is))
    c.push_digits.ensures

pub returns-in-Remainder : goal.returns-in-Remainder
returns-in-Remainder c =
    let stages = c.args.stages in
    let old = c.args.out.now.items in
    onward c.push_rest.result (λ put.
    put ∙ ap (λ (n : ℕ). old ++ expression divider_names (rest_at stages (5 * n))) c.made_by-number.ensures.value
    ∙ ap (λ (e : Expr Part ⊥). old ++ expression divider_names e) (sym (stage_rest stages stages))
    ∙ ap (λ (k : Kind). old ++ expression divider_names (shown_of k (stage_cut stages stages))) (sym c.in-Remainder.is))
    c.push_rest.ensures
