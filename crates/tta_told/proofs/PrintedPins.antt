-- The ports of a printed module show signals and pins of its circuit.
use Rattle.std.proofs.Common.{true, false, refl}
use Rattle.tta_verilog.specs.Expressions.{between, negated}
use Rattle.tta_told.specs.Pins.{PrintedPins}

pub printed_pins : PrintedPins
unfolding between negated
printed_pins m true true = refl
printed_pins m true false = refl
printed_pins m false true = refl
printed_pins m false false = refl
