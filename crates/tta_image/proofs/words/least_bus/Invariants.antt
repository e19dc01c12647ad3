use Rattle.std.proofs.Common.{◌≡◌, ℕ, ◌<◌, false}
use Rattle.tta_image.specs.Cited.{has_bit}
use Rattle.tta_image.proofs.words.least_bus.Given as goal

abbrev pub invariant-loop-bus : goal.invariant-loop-bus
invariant-loop-bus l = (k : ℕ) → k < l.bus → has_bit l.taken k ≡ false
