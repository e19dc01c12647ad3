use Rattle.std.proofs.Common.{refl}
use Rattle.std.proofs.lemmas.Bool.{lt-ltb}
use Rattle.tta_build.proofs.Shortest.{best_shorter}
use Rattle.tta_build.proofs.Trails.{trail_with}
use Rattle.tta_build.proofs.best_candidate.shorter_with.Goals as goal

pub returns-then-fit-so_far : goal.returns-then-fit-so_far
returns-then-fit-so_far c m b best fit = best

pub returns : goal.returns
returns c m b best fit =
    best_shorter m b _ c.args.so_far _ best (trail_with m b c.args.so_far.trail c.args.fit.round best.trail fit.round)
    (record { is = refl; first = fit.first; respects = fit.respects; room = fit.room }) (lt-ltb _ _ c.if-fit-so_far.false)
