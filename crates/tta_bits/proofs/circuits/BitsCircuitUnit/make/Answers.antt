use Rattle.tta_bits.proofs.Making.{circuits_make}
use Rattle.tta_bits.proofs.circuits.BitsCircuitUnit.make.Goals as goal

pub returns : goal.returns
returns c i inside = circuits_make i
