use Rattle.std.proofs.Common.{ℕ, ◌++◌, ap, ◌∙◌}
use Rattle.std.specs.Prelude.{codes}
use Rattle.tta_list.proofs.Lists.{then_more}
use Rattle.tta_list.proofs.Results.{onward}
use Rattle.tta_divider_rtl.specs.Texts.{divider_ports, divider_parts, divider_shown, divider_text}
use Rattle.tta_divider_rtl.proofs.divider.write_divider.Goals as goal

pub returns : goal.returns
unfolding divider_text
returns c =
    let name = c.args.name.now in
    let parts = divider_parts c.args.kind c.args.stages in
    let r2 = parts ++ divider_shown in
    let r1 = divider_ports ++ r2 in
    let put = c.in_ok-push_parts.ensures ∙ ap (λ (n : ℕ). c.push_ports.new.out.items ++ divider_parts c.args.kind n) c.from.ensures in
    onward c.push_text-3.result (λ last.
    then_more _ _ _ (codes "module ") (name ++ r1) c.in_ok-push_text.ensures
    (then_more _ _ _ name r1 c.in_ok-push_text-2.ensures
    (then_more _ _ _ divider_ports r2 c.in_ok-push_ports.ensures
    (then_more _ _ _ parts divider_shown put last)))) c.push_text-3.ensures
