use Rattle.tta_hardware.proofs.Holding.{holds_code}
use Rattle.tta_hardware.proofs.laws.holds_code.Goals as goal

pub returns : goal.returns
returns c = holds_code
