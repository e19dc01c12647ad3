use Rattle.std.proofs.Common.{◌≡◌, Option, sym, ◌∙◌, subst}
use Rattle.std.specs.Prelude.{IfSome}
use Rattle.std.proofs.lemmas.Result.{IfOk-at_ok}
use Rattle.tta_build.specs.declared.trail.Rounds.{Rounds}
use Rattle.tta_build.specs.Derivation.{AreRounds}
use Rattle.tta_build.proofs.Trails.{on_ok}
use Rattle.tta_build.proofs.candidates.Candidates.add_own.Goals as goal

pub returns : goal.returns
returns c all =
    let m = c.args.on.now.joined.machine.now in
    let b = c.args.b.now in
    let one = c.in_ok-by_groups-2.ensures in
    let two = c.in_ok-by_groups-3.ensures in
    let same : c.in_ok-by_groups-3.by_groups ≡ c.in_ok-by_groups.by_groups = two.first ∙ one.first in
    let by_items = IfOk-at_ok (λ (o : Option Rounds). IfSome o (λ r. AreRounds m b r)) one.other c.of_items-by_items.ensures in
    let pushed = on_ok two.other c.push_some-pushed.ensures m b by_items all in
    c.in_ok-push_some.ensures m b (subst (λ (o : Option Rounds). IfSome o (λ r. AreRounds m b r)) (sym same) c.in_ok-by_groups.ensures) pushed
