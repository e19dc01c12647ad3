use Rattle.std.proofs.Common.{◌≡◌, Option, sym, ◌∙◌, subst}
use Rattle.std.specs.Prelude.{IfSome}
use Rattle.std.proofs.lemmas.Result.{IfOk-at_ok}
use Rattle.tta_build.specs.Cited.{BlockList, IsEquivalent}
use Rattle.tta_build.specs.declared.candidates.Bound.{Bound}
use Rattle.tta_build.specs.Placing.{IsBound}
use Rattle.tta_build.proofs.Trails.{on_ok}
use Rattle.tta_build.proofs.candidates.Candidates.of_served.Goals as goal

pub returns : goal.returns
returns c b stands all =
    let m = c.args.on.now.joined.machine.now in
    let one = c.in_ok-list.ensures in
    let two = c.in_ok-other.ensures in
    let same : c.in_ok-other.other ≡ c.args.served = two.first ∙ one.first in
    let added = on_ok one.other c.add_served-added.ensures b stands all in
    let bound = IfOk-at_ok (λ (o : Option Bound). IfSome o (λ x. IsBound m c.in_ok-list.list x)) two.other c.bound-bound.ensures in
    c.in_ok-push_bound.ensures m b (subst (IsEquivalent m b) (sym same) stands)
    (subst (λ (l : BlockList). IfSome c.in_ok-other.bound (λ x. IsBound m l x)) (sym two.first) bound) added
