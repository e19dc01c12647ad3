-- The words that go to a unit.
use Rattle.std.specs.Prelude.{ℕ}
use Rattle.tta_cost.specs.Cited.{Operand, Trigger}
use Rattle.tta_hardware.specs.Signals.{Signal as Named}
use Rattle.tta_cost.specs.declared.offers.Given.{Given}
use Rattle.tta_cost.specs.declared.offers.Given.TheVariants as given

-- a word that goes to a unit
abbrev pub word_of : Given → (unit : ℕ) → Named
word_of given.Operand unit = Operand unit
word_of given.Trigger unit = Trigger unit
