use Rattle.tta_sample_laws.proofs.Halting.{samples_halt_holds}
use Rattle.tta_sample_laws.proofs.laws.samples_halt.Goals as goal

pub returns : goal.returns
returns c = samples_halt_holds
