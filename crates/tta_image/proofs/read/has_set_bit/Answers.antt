use Rattle.std.proofs.Common.{◌-◌, ◌*◌, length, arith}
use Rattle.tta_image.specs.Decoding.{bits_in}
use Rattle.tta_image.proofs.Unique.{length-bytes}
use Rattle.tta_image.proofs.WordsRead.{set_bit}
use Rattle.tta_image.proofs.read.has_set_bit.Goals as goal

pub returns : goal.returns
returns c =
    let many = length-bytes c.args.bytes.now in
    set_bit (bits_in c.args.bytes.now) c.args.at (8 * length c.args.bytes.now - c.args.at) c.number_at.result c.number_at.ensures (omega arith)
