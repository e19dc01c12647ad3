use Rattle.std.specs.Fmt.{digits}
use Rattle.tta_verilog.specs.Circuits.{range}
use Rattle.tta_verilog.specs.Expressions.{between, choice, constant, joined, negated, part}
use Rattle.tta_rtl.specs.Variables.{assignment, declaration, variable}
use Rattle.tta_bits.proofs.circuits.turned.Goals as goal

pub returns : goal.returns
unfolding digits range constant part between negated choice joined variable declaration assignment
returns c = record { before = c.as_slice.ensures; word = c.as_slice-2.ensures }
