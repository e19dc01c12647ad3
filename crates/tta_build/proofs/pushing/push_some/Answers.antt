use Rattle.std.proofs.Common.{Option, subst}
use Rattle.std.specs.Prelude.{IfSome}
use Rattle.tta_build.specs.declared.trail.Rounds.{Rounds}
use Rattle.tta_build.specs.Derivation.{AreRounds}
use Rattle.tta_build.proofs.pushing.push_some.Goals as goal

pub returns-in_ok-push_one-in-Some : goal.returns-in_ok-push_one-in-Some
returns-in_ok-push_one-in-Some c m b rounds all =
    let these = subst (λ (o : Option Rounds). IfSome o (λ r. AreRounds m b r)) c.in-Some.is rounds in
    c.in_ok-push_one-in-Some.ensures m b (record { served = tt; bound = tt }) these all

pub returns-in-None : goal.returns-in-None
returns-in-None c m b rounds all = all
