use Rattle.std.proofs.Common.{List, refl, subst}
use Rattle.tta_build.specs.Cited.{BlockList}
use Rattle.tta_build.specs.Placing.{ArePlacements}
use Rattle.tta_build.proofs.best_candidate.plan_lists.Goals as goal

pub returns : goal.returns
returns c =
    let m = c.args.on.now.joined.machine.now in
    let are = subst (λ (ls : List BlockList). ArePlacements m ls c.in_ok-trails.field-0) c.as_slice.ensures.value c.in_ok-trails.ensures in record {
      selected = refl;
      trails = are.trails;
      first = are.first;
      chosen = are.chosen;
    }
