use Rattle.std.proofs.Common.{◌++◌}
use Rattle.std.specs.List.{flat_map}
use Rattle.tta_list.proofs.Lists.{then_more}
use Rattle.tta_list.proofs.Results.{onward}
use Rattle.tta_boxed_rtl.specs.Left.{lefts, told_by}
use Rattle.tta_boxed_rtl.specs.Texts.{left_lines, plain_lines, telling_lines}
use Rattle.tta_boxed_rtl.proofs.registers.push_registers.Goals as goal

pub returns : goal.returns
returns c =
    let m = c.args.at.now.on.now.m.now in
    let leaves = told_by c.args.at.now.leaves.now in
    let d = c.args.declares in
    let telling = telling_lines m c.args.faults d in
    let froms = flat_map (left_lines m leaves d) (lefts c.args.left.now) in
    onward c.push_froms.result (λ last.
    then_more _ _ _ (plain_lines m leaves d) (telling ++ froms) c.in_ok-push_plain.ensures
    (then_more _ _ _ telling froms c.in_ok-push_telling.ensures last)) c.push_froms.ensures
