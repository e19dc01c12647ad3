use Rattle.tta_verilog.proofs.OneCircuits.{one_circuit_beside}
use Rattle.tta_verilog.proofs.laws.one_circuit_beside.Goals as goal

pub returns : goal.returns
returns g c = one_circuit_beside _ _
