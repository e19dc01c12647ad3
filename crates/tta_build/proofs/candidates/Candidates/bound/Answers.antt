use Rattle.std.proofs.Common.{Option, sym, subst}
use Rattle.std.specs.Prelude.{IfSome}
use Rattle.std.proofs.lemmas.Result.{IfOk-at_ok}
use Rattle.tta_build.specs.Cited.{BlockList, IsEquivalent}
use Rattle.tta_build.specs.declared.candidates.Choices.{Choices}
use Rattle.tta_build.specs.Placing.{AreChoices}
use Rattle.tta_build.proofs.candidates.Candidates.bound.Goals as goal

pub choices-choices-requires : goal.choices-choices-requires
choices-choices-requires c =
    let stands = subst (λ (o : Option BlockList). IfSome o (λ r. IsEquivalent c.args.on.now.joined.machine.now c.args.list.now r)) c.in-Some.is c.in_ok-other.ensures in
    record { list = stands.spare.list c.requires.list }

pub returns-in_ok-list-in-Some : goal.returns-in_ok-list-in-Some
returns-in_ok-list-in-Some c =
    let m = c.args.on.now.joined.machine.now in
    let both = c.in_ok-list-in-Some.ensures in
    let stands = subst (λ (o : Option BlockList). IfSome o (λ r. IsEquivalent m c.args.list.now r)) c.in-Some.is c.in_ok-other.ensures in
    let are = IfOk-at_ok (λ (r : Choices). AreChoices m c.in-Some.other r) both.other c.choices-choices.ensures in record {
      stands = subst (IsEquivalent m c.args.list.now) (sym both.first) stands;
      choices = subst (λ (l : BlockList). AreChoices m l c.in_ok-list-in-Some.choices) (sym both.first) are;
    }
