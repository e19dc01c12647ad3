use Rattle.std.proofs.Common.{◌∙◌}
use Rattle.std.specs.Fmt.{digits}
use Rattle.tta_verilog.specs.Expressions.{between, choice, constant, joined, negated, part}
use Rattle.tta_bits.proofs.circuits.lesser.Goals as goal

pub returns : goal.returns
unfolding digits constant part between negated choice joined
returns c = record { before = c.of_word.ensures.before; word = c.of_word.ensures.word ∙ c.as_slice.ensures }
