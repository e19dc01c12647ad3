use Rattle.std.proofs.Common.{◌≡◌, ◌+◌, ◌-◌, subst, sym, arith}
use Rattle.tta_flight.specs.Rings.{IsStarted}
use Rattle.tta_flight.proofs.Standing.{stands_started}
use Rattle.tta_flight.proofs.Parts.{units_started}
use Rattle.tta_flight.proofs.region.Region.start.Goals as goal

pub returns-then-delay-eq0-clause-same : goal.returns-then-delay-eq0-clause-same
returns-then-delay-eq0-clause-same c = λ f stands.
    let held = subst (λ d. IsStarted c.args.unit d c.args.value c.args.self.now c.show.new.self) (sym c.if-delay-eq0.true) (rw c.from.ensures at c.show.ensures) in
    stands_started f _ _ stands c.args.unit c.args.delay c.args.value held c.requires.unit c.requires.free

pub returns-then-delay-eq0-clause-part : goal.returns-then-delay-eq0-clause-part
returns-then-delay-eq0-clause-part c = λ base count u now xs ys is there within stands.
    let held = subst (λ d. IsStarted c.args.unit d c.args.value c.args.self.now c.show.new.self) (sym c.if-delay-eq0.true) (rw c.from.ensures at c.show.ensures) in
    units_started base count now xs ys _ _ stands u c.args.delay c.args.value (rw is at held) there within (rw is at c.requires.free)

pub returns-else-delay-eq0-clause-same : goal.returns-else-delay-eq0-clause-same
returns-else-delay-eq0-clause-same c = λ f stands.
    let delay_is : c.args.delay - 1 + 1 ≡ c.args.delay = omega (arith, c.if-delay-eq0.false) in
    let held = subst (λ d. IsStarted c.args.unit d c.args.value c.args.self.now c.expect.new.self) delay_is c.expect.ensures in
    stands_started f _ _ stands c.args.unit c.args.delay c.args.value held c.requires.unit c.requires.free

pub returns-else-delay-eq0-clause-part : goal.returns-else-delay-eq0-clause-part
returns-else-delay-eq0-clause-part c = λ base count u now xs ys is there within stands.
    let delay_is : c.args.delay - 1 + 1 ≡ c.args.delay = omega (arith, c.if-delay-eq0.false) in
    let held = subst (λ d. IsStarted c.args.unit d c.args.value c.args.self.now c.expect.new.self) delay_is c.expect.ensures in
    units_started base count now xs ys _ _ stands u c.args.delay c.args.value (rw is at held) there within (rw is at c.requires.free)
