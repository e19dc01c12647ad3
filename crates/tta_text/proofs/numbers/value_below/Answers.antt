use Rattle.std.proofs.Common.{◌+◌, ◌*◌, drop, refl, arith}
use Rattle.std.proofs.lemmas.Grind.{common_steps}
use Rattle.tta_text.specs.Numbers as spec
use Rattle.tta_text.proofs.Values.{value_from, value_from-digit, value_from-other, value_from-over, value_from-nil}
use Rattle.tta_text.proofs.numbers.value_below.Goals as goal

pub digits-init : goal.digits-init
unfolding value_from spec.value_below
digits-init c = record { below = omega arith; left = refl }

pub returns-in_err-digit : goal.returns-in_err-digit
returns-in_err-digit c =
    let other = value_from-other c.args.base c.args.limit c.digits.value c.args.digits.now c.digits.byte-index c.digits-test.true in
    grind (arith, common_steps)

pub returns-then-value-limit : goal.returns-then-value-limit
returns-then-value-limit c =
    let digit = value_from-digit c.args.base c.args.limit c.digits.value c.args.digits.now c.digits.byte-index c.digits-test.true in
    let over = value_from-over c.args.base c.args.limit (c.digits.value * c.from-in-digits.result + c.from-in-digits-2.result) (drop (c.digits.byte-index + 1) c.args.digits.now) (omega arith) c.if-value-limit.true in
    grind (arith, common_steps)

pub digits-preserved : goal.digits-preserved
digits-preserved c =
    let digit = value_from-digit c.args.base c.args.limit c.digits.value c.args.digits.now c.digits.byte-index c.digits-test.true in
    record { below = c.if-value-limit.false; left = grind (arith, common_steps) }

pub returns : goal.returns
returns c =
    let none = value_from-nil c.args.base c.args.limit c.digits.value c.digits.invariant.below in
    grind (arith, common_steps)
