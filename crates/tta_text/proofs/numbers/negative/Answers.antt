use Rattle.std.proofs.Common.{refl, ap, Some, arith}
use Rattle.std.proofs.lemmas.List.{take_rest}
use Rattle.tta_text.specs.Numbers.{negative_of}
use Rattle.tta_text.proofs.numbers.negative.Goals as goal

pub returns-in_err-magnitude : goal.returns-in_err-magnitude
unfolding negative_of
returns-in_err-magnitude c =
    let read = rw take_rest at c.digits.ensures in
    rw (c.from_residual.ensures, ← c.starts_with.ensures.value, c.if-not-starts_with.false, ← read, c.in_err-magnitude.was) refl

pub returns : goal.returns
unfolding negative_of
returns c =
    let read = rw take_rest at c.digits.ensures in
    rw (← c.starts_with.ensures.value, c.if-not-starts_with.false, ← read, c.in_ok-magnitude.was) (ap Some (omega arith))
