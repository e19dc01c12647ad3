use Rattle.std.proofs.Common.{arith}
use Rattle.std.proofs.lemmas.Fmt.{length-decimal-le}
use Rattle.tta_report.proofs.put.put_word_line.Goals as goal

pub write_digits-start-requires : goal.write_digits-start-requires
write_digits-start-requires c c' =
    (length-decimal-le 10 c'.from.result (omega arith) (omega (arith, c'.from.ensures, c'.ranges.word.fits)) (omega (arith, c'.from.ensures, c'.ranges.word.fits)), omega arith)
