use Rattle.std.proofs.Common.{◌≡◌, ◌++◌, length}
use Rattle.std.specs.Vec.Iter.{into_iter_items, into_iter_len}
use Rattle.tta_build.specs.Placing.{IsBest}
use Rattle.tta_build.proofs.best_candidate.shortest.Given as goal

abbrev pub invariant-loop-trail : goal.invariant-loop-trail
invariant-loop-trail l = (l.yielded ++ into_iter_items l.trail-iterator ≡ into_iter_items l.initial.trail-iterator)
    × IsBest l.on.joined.machine.now l.b l.best
    × (into_iter_len l.trail-iterator ≡ length (into_iter_items l.trail-iterator))
