use Rattle.tta_hardware.proofs.Served.{fields_serve}
use Rattle.tta_hardware.proofs.laws.fields_serve.Goals as goal

pub returns : goal.returns
returns c = fields_serve
