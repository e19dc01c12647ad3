use Rattle.tta_ops.proofs.Shifts.{shifted_inverted}
use Rattle.tta_ops.proofs.bits.shift_right_with_sign.Goals as goal

pub returns-else-a : goal.returns-else-a
returns-else-a c = shifted_inverted c.args.a c.args.n c.requires c.if-a.false c.ranges.a.fits
