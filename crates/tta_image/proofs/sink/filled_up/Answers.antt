use Rattle.std.proofs.Common.{◌-◌, arith}
use Rattle.std.proofs.lemmas.Nat.{shl_whole}
use Rattle.tta_image.proofs.sink.filled_up.Goals as goal

pub returns : goal.returns
returns c = shl_whole c.args.bits c.args.filled (8 - c.args.filled) 8 c.requires.small (omega arith)
