use Rattle.std.proofs.Common.{arith}
use Rattle.tta_rtl.specs.Kept.{imm_line}
use Rattle.tta_rtl.proofs.Texts.{number_more}
use Rattle.tta_rtl.proofs.longs.push_imm_lines.Goals as goal

pub loop-index-preserved : goal.loop-index-preserved
loop-index-preserved c =
    number_more (imm_line c.args.on.now.m.now c.args.declares c.args.unit) _ _ _ 0 c.loop-index.index c.loop-index.index (omega arith)
    c.loop-index.invariant c.in_ok-push_imm_register.ensures
