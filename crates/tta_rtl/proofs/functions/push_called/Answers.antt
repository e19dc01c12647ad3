use Rattle.std.proofs.Common.{ℕ, ◌++◌, ap, ◌∙◌}
use Rattle.std.specs.Prelude.{codes, decimal}
use Rattle.tta_list.proofs.Lists.{then_more}
use Rattle.tta_list.proofs.Results.{onward}
use Rattle.tta_rtl.specs.Functions.{called_text}
use Rattle.tta_rtl.proofs.functions.push_called.Goals as goal

pub returns : goal.returns
unfolding called_text
returns c =
    let name = c.args.name.now in
    let number = decimal c.args.id.0 in
    let end = codes "(a, b);\nendfunction\n" in
    onward c.push_text-4.result (λ last.
    then_more _ _ _ (codes "op_") (number ++ (codes " = own_" ++ (name ++ end))) c.in_ok-push_text.ensures
    (then_more _ _ _ number (codes " = own_" ++ (name ++ end))
    (c.in_ok-push_number.ensures ∙ ap (λ (n : ℕ). c.push_text.new.out.items ++ decimal n) c.from.ensures)
    (then_more _ _ _ (codes " = own_") (name ++ end) c.in_ok-push_text-2.ensures
    (then_more _ _ _ name end c.in_ok-push_text-3.ensures last)))) c.push_text-4.ensures
