use Rattle.tta_verilog.proofs.OneCircuits.{one_circuit}
use Rattle.tta_verilog.proofs.laws.one_circuit.Goals as goal

pub returns : goal.returns
returns g c = one_circuit _ _
