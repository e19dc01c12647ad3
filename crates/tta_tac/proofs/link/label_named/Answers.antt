use Rattle.std.proofs.Common.{refl}
use Rattle.tta_tac.proofs.link.label_named.Goals as goal

pub returns-in-Some : goal.returns-in-Some
returns-in-Some c = rw (← c.in-Some.ensures) refl
