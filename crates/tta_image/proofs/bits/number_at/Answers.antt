use Rattle.std.proofs.Common.{◌+◌, ◌∙◌, arith}
use Rattle.tta_image.specs.Decoding.{bits_in}
use Rattle.tta_arch.proofs.Widths.{pow_le}
use Rattle.tta_image.proofs.Unique.{length-bytes}
use Rattle.tta_image.proofs.BitsAt.{field_below}
use Rattle.tta_image.proofs.FieldParts.{number_more}
use Rattle.tta_image.proofs.bits.number_at.Goals as goal

pub joined-number-requires-clause-fits : goal.joined-number-requires-clause-fits
joined-number-requires-clause-fits c =
    let many = length-bytes c.args.bytes.now in
    let k = c.min-count.result in let done = c.loop-done.done in
    let same = number_more c.args.bytes.now c.args.at done c.args.width k c.loop-done.number c.part_of.result c.requires.room c.loop-done-test.true (omega arith) (omega arith)
    c.loop-done.invariant.number c.part_of.ensures.value in
    let small = field_below (bits_in c.args.bytes.now) c.args.at (done + k) (omega arith) in
    let most = pow_le (done + k) 64 (omega arith) in
    omega arith

pub loop-done-preserved : goal.loop-done-preserved
loop-done-preserved c = record {
  number = c.joined-number.ensures
      ∙ number_more c.args.bytes.now c.args.at c.loop-done.done c.args.width c.min-count.result c.loop-done.number c.part_of.result c.requires.room c.loop-done-test.true
      (omega arith) (omega arith) c.loop-done.invariant.number c.part_of.ensures.value;
  done = omega arith;
}
