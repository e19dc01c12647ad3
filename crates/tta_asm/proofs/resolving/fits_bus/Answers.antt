use Rattle.std.proofs.Common.{rules}
use Rattle.tta_asm.proofs.resolving.fits_bus.Goals as goal

pub returns-in-Some : goal.returns-in-Some
returns-in-Some c = search rules
