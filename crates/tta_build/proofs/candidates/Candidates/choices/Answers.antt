use Rattle.std.proofs.Common.{Option, sym, subst}
use Rattle.std.specs.Prelude.{IfSome}
use Rattle.std.proofs.lemmas.Result.{IfOk-at_ok}
use Rattle.tta_build.specs.declared.trail.Rounds.{Rounds}
use Rattle.tta_build.specs.Derivation.{AreRounds}
use Rattle.tta_build.proofs.candidates.Candidates.choices.Goals as goal

pub returns : goal.returns
returns c =
    let m = c.args.on.now.joined.machine.now in
    let both = c.in_ok-best-2.ensures in record {
      best = subst (AreRounds m c.args.list.now) (sym both.first) c.in_ok-best.ensures;
      by_items = IfOk-at_ok (λ (o : Option Rounds). IfSome o (λ x. AreRounds m c.args.list.now x)) both.other c.of_items-by_items.ensures;
    }
