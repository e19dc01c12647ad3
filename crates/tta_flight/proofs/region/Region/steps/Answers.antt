use Rattle.std.proofs.Common.{◌≡◌, ◌≤◌, ◌+◌, ◌-◌, ◌*◌, ◌/◌, ℕ, subst, sym, arith}
use Rattle.tta_flight.specs.Rings.{nearest, IsAdvanced}
use Rattle.tta_flight.proofs.Advanced.{advanced_none, advanced_chain}
use Rattle.tta_flight.proofs.Walked.{nearest_first, nearest_order, nearest_low, within_bits}
use Rattle.tta_flight.proofs.region.Region.steps.Goals as goal

pub words-init : goal.words-init
words-init c =
    let base : ℕ = c.args.base in
    let end : ℕ = base + c.args.count in
    let order : base ≤ end = omega arith in
    let from : nearest base end (64 * (base / 64)) ≡ base = nearest_low base end order (64 * (base / 64)) (omega arith) in
    record {
      first = omega arith;
      near = omega arith;
      advanced = subst (λ n. IsAdvanced base (n - base) c.args.self.now c.args.self.now) (sym from) (advanced_none base c.args.self.now);
    }

pub walk-requires-clause-there : goal.walk-requires-clause-there
walk-requires-clause-there c = λ unit here is.
    let in_it = within_bits c.words.number c.args.base (c.args.base + c.args.count) c.bits_of_word.result c.bits_of_word.ensures unit here is in
    omega (arith, in_it.1, c.requires.there, c.words.invariant.advanced.units)

pub words-preserved : goal.words-preserved
words-preserved c =
    let base : ℕ = c.args.base in
    let end : ℕ = base + c.args.count in
    let order : base ≤ end = omega arith in
    let start : ℕ = 64 * c.words.number in
    let next : start + 64 ≡ 64 * (c.words.number + 1) = omega arith in
    record {
      first = omega (arith, c.words.invariant.first);
      near = omega (arith, c.words-test.true);
      advanced = subst (λ n. IsAdvanced base (nearest base end n - base) c.args.self.now c.walk.new.self) next
          (advanced_chain base (nearest base end start) (nearest base end (start + 64)) _ _ _ (nearest_first base end order start)
          (nearest_order base end order start (start + 64) (omega arith)) c.words.invariant.advanced (c.walk.ensures base end order c.bits_of_word.ensures));
    }

pub returns : goal.returns
returns c =
    let base : ℕ = c.args.base in
    let end : ℕ = base + c.args.count in
    let all : nearest base end (64 * c.words.number) - base ≡ c.args.count = grind (arith, c.words-test.false) in
    subst (λ n. IsAdvanced base n c.args.self.now c.words.self) all c.words.invariant.advanced
