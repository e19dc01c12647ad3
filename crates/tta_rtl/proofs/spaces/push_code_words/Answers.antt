use Rattle.std.proofs.Common.{◌*◌, arith}
use Rattle.std.specs.Prelude.{codes}
use Rattle.tta_rtl.specs.Cited.{bits_in, field, case_line}
use Rattle.tta_rtl.proofs.Texts.{number_more}
use Rattle.tta_rtl.proofs.spaces.push_code_words.Goals as goal

pub loop-k-preserved : goal.loop-k-preserved
loop-k-preserved c =
    number_more (λ k. case_line (codes "code") c.args.width k (field (k * c.args.width) c.args.width (bits_in c.args.bytes.now))) _ _ _ 0 c.loop-k.k
    c.loop-k.k (omega arith) c.loop-k.invariant c.in_ok-push_code_word.ensures
