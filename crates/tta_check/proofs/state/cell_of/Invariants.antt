-- The cells before this one are of other places.
use Rattle.std.proofs.Common.{◌≡◌, drop}
use Rattle.tta_check.specs.States.{place_of, cell_of}
use Rattle.tta_check.proofs.state.cell_of.Given as goal

abbrev pub invariant-loop-kept : goal.invariant-loop-kept
invariant-loop-kept l = cell_of l.cells (place_of l.location) ≡ cell_of (drop l.kept-index l.cells) (place_of l.location)
