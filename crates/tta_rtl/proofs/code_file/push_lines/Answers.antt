use Rattle.std.proofs.Common.{◌*◌, arith}
use Rattle.tta_rtl.specs.Cited.{bits_in, field}
use Rattle.tta_rtl.specs.CodeFile.{hex_line}
use Rattle.tta_rtl.proofs.Texts.{number_more}
use Rattle.tta_rtl.proofs.code_file.push_lines.Goals as goal

pub loop-k-preserved : goal.loop-k-preserved
loop-k-preserved c =
    number_more (λ k. hex_line c.args.width (field (k * c.args.width) c.args.width (bits_in c.args.bytes.now))) _ _ _ 0 c.loop-k.k
    c.loop-k.k (omega arith) c.loop-k.invariant c.in_ok-push_line.ensures
