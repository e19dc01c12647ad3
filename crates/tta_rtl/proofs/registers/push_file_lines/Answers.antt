use Rattle.std.proofs.Common.{arith}
use Rattle.tta_rtl.specs.Kept.{file_line}
use Rattle.tta_rtl.proofs.Texts.{number_more}
use Rattle.tta_rtl.proofs.registers.push_file_lines.Goals as goal

pub loop-index-preserved : goal.loop-index-preserved
loop-index-preserved c =
    number_more (file_line c.args.on.now.m.now c.args.declares c.args.file) _ _ _ 0 c.loop-index.index c.loop-index.index (omega arith)
    c.loop-index.invariant c.in_ok-push_file_register.ensures
