use Rattle.std.proofs.Common.{drop, arith}
use Rattle.std.proofs.lemmas.List.{length-drop}
use Rattle.tta_image.specs.Decoding.{bits_in}
use Rattle.tta_image.proofs.Unique.{length-bytes}
use Rattle.tta_image.proofs.slots.numbers_at.Goals as goal

pub returns : goal.returns
returns c =
    let many = length-bytes c.args.bytes.now in
    let rest = length-drop c.args.at (bits_in c.args.bytes.now) in
    c.numbers_in.ensures (drop c.args.at (bits_in c.args.bytes.now)) (omega arith) c.number_at.ensures
