use Rattle.std.proofs.Common.{ℕ, ◌-◌, ◌++◌, ap, ◌∙◌}
use Rattle.std.specs.Prelude.{codes, decimal}
use Rattle.tta_list.proofs.Lists.{then_more}
use Rattle.tta_list.proofs.Results.{onward}
use Rattle.tta_rtl.specs.Cited.{range}
use Rattle.tta_rtl.specs.CodeFile.{filed_function, filed_text}
use Rattle.tta_rtl.proofs.rom.push_array.Goals as goal

pub returns : goal.returns
unfolding filed_text
returns c =
    let function = filed_function c.args.width in
    let fill = codes "];\ninitial $readmemh(\"code.hex\", code_words);\n" in
    let highest = decimal (c.args.size - 1) in
    let words = codes "code_words [0:" in
    let r3 = fill ++ function in
    let r2 = highest ++ r3 in
    let r1 = words ++ r2 in
    onward c.push_function.result (λ last.
    then_more _ _ _ (codes "reg ") (range c.args.width ++ r1) c.in_ok-push_text.ensures
    (then_more _ _ _ (range c.args.width) r1 c.in_ok-push_range.ensures
    (then_more _ _ _ words r2 c.in_ok-push_text-2.ensures
    (then_more _ _ _ highest r3
    (c.in_ok-push_number.ensures
    ∙ ap (λ (n : ℕ). c.push_text-2.new.out.items ++ decimal n) (c.from.ensures ∙ c.saturating_sub.ensures))
    (then_more _ _ _ fill function c.in_ok-push_text-3.ensures last))))) c.push_function.ensures
