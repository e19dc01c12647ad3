use Rattle.std.proofs.Common.{◌+◌, ◌*◌, drop, refl, arith}
use Rattle.std.proofs.lemmas.Grind.{common_steps}
use Rattle.tta_text.specs.Numbers as spec
use Rattle.tta_text.proofs.Values.{value_from, value_from-digit, value_from-other, value_from-over, value_from-nil}
use Rattle.tta_load.proofs.bound.value_of.Goals as goal

pub digits-init : goal.digits-init
unfolding value_from spec.value_below
digits-init c = record { below = omega arith; left = refl }

pub returns-in_err-digit-clause-value : goal.returns-in_err-digit-clause-value
returns-in_err-digit-clause-value c =
    let other = value_from-other 10 c.args.limit c.digits.value c.args.digits.now c.digits.byte-index c.digits-test.true in
    grind (arith, common_steps)

pub returns-then-value-limit-clause-value : goal.returns-then-value-limit-clause-value
returns-then-value-limit-clause-value c =
    let digit = value_from-digit 10 c.args.limit c.digits.value c.args.digits.now c.digits.byte-index c.digits-test.true in
    let over = value_from-over 10 c.args.limit (c.digits.value * 10 + c.from-in-digits.result) (drop (c.digits.byte-index + 1) c.args.digits.now) (omega arith) c.if-value-limit.true in
    grind (arith, common_steps)

pub digits-preserved : goal.digits-preserved
digits-preserved c =
    let digit = value_from-digit 10 c.args.limit c.digits.value c.args.digits.now c.digits.byte-index c.digits-test.true in
    grind (arith, common_steps)

pub returns-clause-value : goal.returns-clause-value
returns-clause-value c =
    let none = value_from-nil 10 c.args.limit c.digits.value c.digits.invariant.below in
    grind (arith, common_steps)
