use Rattle.std.proofs.Common.{ℕ, List, ◌++◌, ap, ◌∙◌}
use Rattle.std.specs.Prelude.{codes, decimal}
use Rattle.tta_list.proofs.Lists.{then_more}
use Rattle.tta_list.proofs.Results.{onward}
use Rattle.tta_rtl.specs.Cited.{bits_in, field, bits_text, case_line}
use Rattle.tta_rtl.proofs.Digits.{digits_of_field}
use Rattle.tta_rtl.proofs.spaces.push_code_word.Goals as goal

pub returns : goal.returns
unfolding case_line
returns c =
    let width = c.args.width in
    let bytes = c.args.bytes.now in
    let bits = bits_text width (field c.args.at width (bits_in bytes)) in
    let r6 = codes "'b" ++ (bits ++ codes ";\n") in
    let r5 = decimal width ++ r6 in
    let r4 = codes " = " ++ r5 in
    let r3 = codes "code" ++ r4 in
    onward c.push_text-5.result (λ last.
    then_more _ _ _ (decimal c.args.k) (codes ": " ++ r3) c.in_ok-push_number.ensures
    (then_more _ _ _ (codes ": ") r3 c.in_ok-push_text.ensures
    (then_more _ _ _ (codes "code") r4 c.in_ok-push_text-2.ensures
    (then_more _ _ _ (codes " = ") r5 c.in_ok-push_text-3.ensures
    (then_more _ _ _ (decimal width) r6 (c.in_ok-push_number-2.ensures ∙ ap (λ (n : ℕ). c.push_text-3.new.out.items ++ decimal n) c.from.ensures)
    (then_more _ _ _ (codes "'b") (bits ++ codes ";\n") c.in_ok-push_text-4.ensures
    (then_more _ _ _ bits (codes ";\n")
    (c.in_ok-push_bits.ensures ∙ ap (λ (t : List ℕ). c.push_text-4.new.out.items ++ t) (digits_of_field bytes c.args.at width c.requires.inside)) last))))))) c.push_text-5.ensures
