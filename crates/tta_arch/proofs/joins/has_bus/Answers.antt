use Rattle.std.proofs.Common.{sym}
use Rattle.tta_arch.proofs.BusSources.{no_bus}
use Rattle.tta_arch.proofs.joins.has_bus.Goals as goal

pub returns-else-bus-lt16 : goal.returns-else-bus-lt16
returns-else-bus-lt16 c = sym (no_bus c.args.buses c.args.bus c.ranges.buses.fits c.if-bus-lt16.false)
