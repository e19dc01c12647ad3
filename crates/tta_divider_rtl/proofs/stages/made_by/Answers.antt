use Rattle.std.proofs.Common.{◌+◌, arith}
use Rattle.tta_divider.proofs.Counts.{grows, at_most}
use Rattle.tta_divider_rtl.proofs.stages.made_by.Goals as goal

pub overflow_sub-result : goal.overflow_sub-result
overflow_sub-result c =
    let less = grows c.args.stages c.args.stage (c.args.stage + 1) (omega arith) in
    omega (arith, less, c.made_before.ensures, c.made_before-2.ensures)

pub returns-clause-few : goal.returns-clause-few
returns-clause-few c =
    let most = at_most c.args.stages c.args.stage c.requires.1 in
    omega (arith, most, c.made_before.ensures)
