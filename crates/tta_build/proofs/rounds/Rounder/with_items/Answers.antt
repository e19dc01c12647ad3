use Rattle.std.proofs.Common.{◌≡◌, true, Option, sym, subst}
use Rattle.std.specs.Prelude.{IfSome}
use Rattle.tta_build.specs.Cited.{BlockList, is_list}
use Rattle.tta_build.specs.declared.trail.Round.{Round}
use Rattle.tta_build.specs.Derivation.{IsRound}
use Rattle.std.proofs.lemmas.Result.{IfOk-at_ok}
use Rattle.tta_build.proofs.Trails.{round_list}
use Rattle.tta_build.proofs.rounds.Rounder.with_items.Goals as goal

pub by_items-second-requires : goal.by_items-second-requires
by_items-second-requires c = record {
  list = subst (λ (b : BlockList). is_list c.args.on.now.joined.machine.now b.items ≡ true) (sym c.last.ensures)
      (round_list c.args.on.now.joined.machine.now c.args.list.now c.args.first c.requires.first c.requires.list);
}

pub returns : goal.returns
returns c =
    let m = c.args.on.now.joined.machine.now in
    let both = c.in_ok-first.ensures in
    let last = subst (λ (b : BlockList). IfSome c.in_ok-first.second (λ n. IsRound m b n)) c.last.ensures
    (IfOk-at_ok (λ (o : Option Round). IfSome o (λ n. IsRound m c.last.result.now n)) both.other c.by_items-second.ensures) in
    record {
      first = subst (IsRound m c.args.list.now) (sym both.first) c.requires.first;
      second = subst (λ (r : Round). IfSome c.in_ok-first.second (λ n. IsRound m r.passed.lively n)) (sym both.first) last;
    }
