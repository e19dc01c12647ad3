use Rattle.std.proofs.Common.{Some, ap, refl}
use Rattle.tta_ops.proofs.Names.{name_at}
use Rattle.tta_ops.proofs.operations.Operations.name.Goals as goal

pub returns-in-Some : goal.returns-in-Some
returns-in-Some c = rw (← c.self.view_is, name_at, ← c.in-Some.ensures.entry) (ap Some c.as_str.ensures.value)

pub returns-in-None : goal.returns-in-None
returns-in-None c = rw (← c.self.view_is, name_at, ← c.in-None.ensures.entry) refl
