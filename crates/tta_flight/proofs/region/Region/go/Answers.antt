use Rattle.std.proofs.Common.{◌≡◌, ◌≤◌, ◌+◌, ◌-◌, ◌*◌, ◌/◌, ℕ, subst, arith}
use Rattle.tta_flight.specs.Rings.{nearest, IsAdvanced}
use Rattle.tta_flight.proofs.Walked.{nearest_low, nearest_high, within_bits}
use Rattle.tta_flight.proofs.region.Region.go.Goals as goal

pub walk-requires-clause-there : goal.walk-requires-clause-there
walk-requires-clause-there c = λ unit here is.
    let in_it = within_bits (c.args.base / 64) c.args.base (c.args.base + c.args.count) c.bits_of_units.result c.bits_of_units.ensures unit here is in
    omega (arith, in_it.1, c.requires.there)

pub returns-then-base-count-lt64 : goal.returns-then-base-count-lt64
returns-then-base-count-lt64 c =
    let base : ℕ = c.args.base in
    let end : ℕ = base + c.args.count in
    let order : base ≤ end = omega arith in
    let start : ℕ = 64 * (base / 64) in
    let from : nearest base end start ≡ base = nearest_low base end order start (omega arith) in
    let to : nearest base end (start + 64) ≡ end = nearest_high base end order (start + 64) (omega arith) (omega (arith, c.if-base-count-lt64.true)) in
    let made : IsAdvanced (nearest base end start) (nearest base end (start + 64) - nearest base end start) c.args.self.now c.walk.new.self = c.walk.ensures base end order c.bits_of_units.ensures in
    let count : nearest base end (start + 64) - nearest base end start ≡ c.args.count = omega (arith, from, to) in
    subst (λ n. IsAdvanced n c.args.count c.args.self.now c.walk.new.self) from
    (subst (λ n. IsAdvanced (nearest base end start) n c.args.self.now c.walk.new.self) count made)
