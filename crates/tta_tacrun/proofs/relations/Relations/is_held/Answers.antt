use Rattle.std.proofs.Common.{refl}
use Rattle.tta_tacrun.proofs.relations.Relations.is_held.Goals as goal

pub returns-in-Ge : goal.returns-in-Ge
returns-in-Ge g c = rw (c.is_odd_at-in-Ge.ensures, c.as_slice-in-Ge.ensures, c.in-Ge.is) refl
