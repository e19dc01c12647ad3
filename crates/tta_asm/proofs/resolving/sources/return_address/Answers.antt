use Rattle.std.proofs.Common.{refl, ap}
use Rattle.tta_asm.specs.Cited.{Machine}
use Rattle.tta_asm.proofs.resolving.sources.return_address.Goals as goal

pub returns-then-is_some : goal.returns-then-is_some
returns-then-is_some c =
    rw (← ap (λ (m : Machine). m.control) c.m.view_is, ← c.is_some.ensures, c.if-is_some.true) refl
