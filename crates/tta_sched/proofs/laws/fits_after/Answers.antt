use Rattle.tta_sched.proofs.Firsts.{fits_after}
use Rattle.tta_sched.proofs.laws.fits_after.Goals as goal

pub returns : goal.returns
returns c = fits_after
