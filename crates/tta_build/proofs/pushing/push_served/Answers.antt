use Rattle.std.proofs.Common.{◌≡◌, Option, sym, subst}
use Rattle.std.specs.Prelude.{IfSome}
use Rattle.std.proofs.lemmas.Result.{IfOk-at_ok}
use Rattle.tta_build.specs.Cited.{BlockList, IsEquivalent}
use Rattle.tta_build.specs.declared.trail.Rounds.{Rounds}
use Rattle.tta_build.specs.Derivation.{AreRounds}
use Rattle.tta_build.proofs.pushing.push_served.Goals as goal

pub returns-in_ok-push_one-in-Some : goal.returns-in_ok-push_one-in-Some
returns-in_ok-push_one-in-Some c m b stands rounds all =
    let served = c.args.served.now in
    let these = subst (λ (o : Option Rounds). IfSome o (λ r. AreRounds m served r)) c.in-Some.is rounds in
    let both = c.in_ok-rounds-in-Some.ensures in
    let same : c.in_ok-rounds-in-Some.copy ≡ served = IfOk-at_ok (λ (r : BlockList). r ≡ served) both.other c.copied-copy.ensures in
    let kept = subst (λ (r : Rounds). AreRounds m served r) (sym both.first) these in
    c.in_ok-push_one-in-Some.ensures m b (record { served = subst (IsEquivalent m b) (sym same) stands; bound = tt })
    (subst (λ (l : BlockList). AreRounds m l c.in_ok-rounds-in-Some.rounds) (sym same) kept) all

pub returns-in-None : goal.returns-in-None
returns-in-None c m b stands rounds all = all
