use Rattle.std.proofs.Common.{ℕ, ◌++◌, ap, ◌∙◌}
use Rattle.std.specs.Prelude.{codes, decimal}
use Rattle.tta_list.proofs.Lists.{then_more}
use Rattle.tta_list.proofs.Results.{onward}
use Rattle.tta_rtl.specs.Functions.{function_head, before_number, after_number}
use Rattle.tta_rtl.proofs.functions.start_function.Goals as goal

pub returns : goal.returns
unfolding function_head
returns c =
    let name = c.args.name.now in
    let number = decimal c.args.id.0 in
    onward c.push_text-4.result (λ last.
    then_more _ _ _ (codes "// ") (name ++ (before_number ++ (number ++ after_number))) c.in_ok-push_text.ensures
    (then_more _ _ _ name (before_number ++ (number ++ after_number)) c.in_ok-push_text-2.ensures
    (then_more _ _ _ before_number (number ++ after_number) c.in_ok-push_text-3.ensures
    (then_more _ _ _ number after_number
    (c.in_ok-push_number.ensures ∙ ap (λ (n : ℕ). c.push_text-3.new.out.items ++ decimal n) c.from.ensures) last)))) c.push_text-4.ensures
