use Rattle.std.proofs.Common.{refl}
use Rattle.tta_tac.proofs.link.callee_named.Goals as goal

pub returns-then-eq : goal.returns-then-eq
returns-then-eq c =
    let is = rw c.as_slice.ensures at c.eq.ensures in
    rw (← is, c.if-eq.true) refl

pub returns-in-Some : goal.returns-in-Some
returns-in-Some c =
    let is = rw c.as_slice.ensures at c.eq.ensures in
    rw (← is, c.if-eq.false, ← c.in-Some.ensures) refl
