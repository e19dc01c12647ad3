use Rattle.std.proofs.Common.{◌+◌, arith}
use Rattle.tta_rtl.specs.Kept.{underway_line}
use Rattle.tta_rtl.proofs.Texts.{number_more}
use Rattle.tta_rtl.proofs.states.push_underway_lines.Goals as goal

pub loop-before-preserved : goal.loop-before-preserved
loop-before-preserved c =
    number_more (underway_line c.args.on.now.m.now c.args.declares) _ _ _ 1 c.loop-before.before (c.loop-before.before + 1) (omega arith)
    c.loop-before.invariant c.in_ok-push_underway.ensures
