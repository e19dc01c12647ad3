use Rattle.std.proofs.Common.{refl}
use Rattle.std.proofs.lemmas.List.{take_rest}
use Rattle.tta_text.specs.Numbers.{number_of}
use Rattle.tta_text.proofs.numbers.number.Goals as goal

pub returns-then-starts_with : goal.returns-then-starts_with
unfolding number_of
returns-then-starts_with c =
    rw (c.digits.ensures, take_rest c.args.word.now 2, ← c.starts_with.ensures.value, c.if-starts_with.true) refl
