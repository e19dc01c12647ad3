use Rattle.std.proofs.Common.{rules, refl}
use Rattle.tta_asm.proofs.labels.add_label.Goals as goal

pub returns-then-is_some : goal.returns-then-is_some
returns-then-is_some c = rw (← c.get.ensures, ← c.is_some.ensures, c.if-is_some.true) refl

pub add-requires : goal.add-requires
add-requires c = search rules

pub returns : goal.returns
returns c = search rules
