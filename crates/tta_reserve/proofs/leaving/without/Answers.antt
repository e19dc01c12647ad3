use Rattle.tta_reserve.proofs.OpenBuses.{without_others}
use Rattle.tta_reserve.proofs.leaving.without.Goals as goal

pub returns : goal.returns
returns c = λ bus. without_others c.args.buses c.args.others bus c.ranges.buses.fits c.ranges.others.fits
