use Rattle.tta_rtl.specs.CodeFile.{hex_line}
use Rattle.tta_rtl.proofs.CodeFiles.{zeros_more}
use Rattle.tta_rtl.proofs.code_file.push_zero_lines.Goals as goal

pub loop-preserved : goal.loop-preserved
loop-preserved c = zeros_more (hex_line c.args.width) _ _ _ c.loop.counter c.loop.invariant c.in_ok-push_zero_line.ensures
