-- The instructions so far.
use Rattle.std.specs.Prelude.{[]}
use Rattle.tta_check.specs.Cited.{effects_of}
use Rattle.tta_check.specs.Locations.{HasAll}
use Rattle.tta_check.proofs.Added.{Added}
use Rattle.tta_check.proofs.locations.locations_of.Given as goal

abbrev pub invariant-loop-i : goal.invariant-loop-i
invariant-loop-i l = Added (λ i locations. HasAll (effects_of l.m i) locations) l.code.words l.i-index [] l.locations.items
