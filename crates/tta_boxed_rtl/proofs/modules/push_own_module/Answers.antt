use Rattle.std.proofs.Common.{ℕ, ◌++◌, ap, ◌∙◌}
use Rattle.std.specs.Prelude.{codes, decimal}
use Rattle.tta_list.proofs.Lists.{then_more}
use Rattle.tta_list.proofs.Results.{onward}
use Rattle.tta_boxed_rtl.specs.Beside.{own_module}
use Rattle.tta_boxed_rtl.proofs.modules.push_own_module.Goals as goal

pub returns : goal.returns
unfolding own_module
returns c =
    let name = c.args.name.now in
    let number = decimal c.args.stages in
    let end = codes "))" in
    onward c.push_text-4.result (λ last.
    then_more _ _ _ (codes "box_") (name ++ (codes " #(.STAGES(" ++ (number ++ end))) c.in_ok-push_text.ensures
    (then_more _ _ _ name (codes " #(.STAGES(" ++ (number ++ end)) c.in_ok-push_text-2.ensures
    (then_more _ _ _ (codes " #(.STAGES(") (number ++ end) c.in_ok-push_text-3.ensures
    (then_more _ _ _ number end
    (c.in_ok-push_number.ensures ∙ ap (λ (n : ℕ). c.push_text-3.new.out.items ++ decimal n) c.from.ensures) last)))) c.push_text-4.ensures
