use Rattle.std.proofs.Common.{sym, subst}
use Rattle.std.specs.Prelude.{Vec}
use Rattle.std.specs.Global.{Global}
use Rattle.std.proofs.lemmas.Result.{IfOk-at_ok}
use Rattle.tta_build.specs.declared.trail.Derivation.{Derivation}
use Rattle.tta_build.specs.Derivation.{AreTrailsOf}
use Rattle.tta_build.specs.Placing.{IsBest}
use Rattle.tta_build.proofs.best_candidate.Chooser.place_first.Goals as goal

pub shortest-requires : goal.shortest-requires
shortest-requires c =
    let m = c.args.on.now.joined.machine.now in
    let b = c.args.b.now in
    let both = c.in_ok-first-2.ensures in record {
      list = c.requires.list;
      best = subst (IsBest m b) (sym both.first) c.in_ok-first.ensures;
      others = IfOk-at_ok (λ (ts : Vec Derivation Global). AreTrailsOf m b ts.items) both.other c.others-others.ensures;
    }

pub with_last-requires : goal.with_last-requires
with_last-requires c = record { list = c.requires.list; best = c.in_ok-best.ensures }
