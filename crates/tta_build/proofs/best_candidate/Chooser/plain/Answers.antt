use Rattle.tta_build.proofs.Trails.{trail_list}
use Rattle.tta_build.proofs.Shortest.{best_one}
use Rattle.tta_build.proofs.best_candidate.Chooser.plain.Goals as goal

pub fit_of-requires : goal.fit_of-requires
fit_of-requires c =
    record { list = trail_list c.args.on.now.joined.machine.now c.args.b.now c.in_ok-first.first c.in_ok-first.ensures.trail c.requires.list }

pub returns : goal.returns
returns c =
    best_one c.args.on.now.joined.machine.now c.args.b.now c.in_ok-first.first c.in_ok-best.best c.in_ok-first.ensures.trail c.in_ok-first.ensures.last
    c.in_ok-best.ensures
