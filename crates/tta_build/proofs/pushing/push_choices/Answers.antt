use Rattle.std.proofs.Common.{Option, subst}
use Rattle.std.specs.Prelude.{IfSome}
use Rattle.tta_build.specs.declared.trail.Rounds.{Rounds}
use Rattle.tta_build.specs.Derivation.{start_of, AreRounds}
use Rattle.tta_build.proofs.pushing.push_choices.Goals as goal

pub returns-in_ok-push_both-in-Some : goal.returns-in_ok-push_both-in-Some
returns-in_ok-push_both-in-Some c m b start are all =
    let more = subst (λ (o : Option Rounds). IfSome o (λ r. AreRounds m (start_of b c.args.start) r)) c.in-Some.is are.by_items in
    c.in_ok-push_both-in-Some.ensures m b start are.best more all

pub returns-in_ok-push_one-in-None : goal.returns-in_ok-push_one-in-None
returns-in_ok-push_one-in-None c m b start are all = c.in_ok-push_one-in-None.ensures m b start are.best all
