use Rattle.std.proofs.Common.{◌≡◌, true, Option, sym, subst}
use Rattle.std.proofs.lemmas.Result.{IfOk-at_ok}
use Rattle.std.specs.Prelude.{IfSome}
use Rattle.tta_build.specs.Cited.{BlockList, is_list}
use Rattle.tta_build.specs.declared.second_round.RoundFit.{RoundFit}
use Rattle.tta_build.specs.declared.best_candidate.Chosen.{Chosen}
use Rattle.tta_build.specs.Placing.{IsBest, IsRoundFit}
use Rattle.tta_build.proofs.Trails.{first_list}
use Rattle.tta_build.proofs.best_candidate.Chooser.with_latest.Goals as goal

pub second_round-fit-requires : goal.second_round-fit-requires
second_round-fit-requires c = record {
  list = subst (λ (l : BlockList). is_list c.args.on.now.joined.machine.now l.items ≡ true) (sym c.last.ensures)
      (first_list c.args.on.now.joined.machine.now c.args.b.now c.args.so_far.trail c.requires.best.trail c.requires.list);
}

pub returns-in-Some : goal.returns-in-Some
returns-in-Some c =
    let m = c.args.on.now.joined.machine.now in
    let both = c.in_ok-best.ensures in
    let fits = IfOk-at_ok (λ (o : Option RoundFit). IfSome o (λ r. IsRoundFit m c.last.result.now r)) both.other c.second_round-fit.ensures in
    let fit = subst (λ (o : Option RoundFit). IfSome o (λ r. IsRoundFit m c.last.result.now r)) c.in-Some.is fits in
    let first = subst (λ (l : BlockList). IsRoundFit m l c.in-Some.fit) c.last.ensures fit in
    c.shorter_with.ensures m c.args.b.now (subst (IsBest m c.args.b.now) (sym both.first) c.requires.best)
    (subst (λ (s : Chosen). IsRoundFit m s.trail.rounds.first.passed.lively c.in-Some.fit) (sym both.first) first)

pub returns-in-None : goal.returns-in-None
returns-in-None c = subst (IsBest c.args.on.now.joined.machine.now c.args.b.now) (sym c.in_ok-best.ensures.first) c.requires.best
