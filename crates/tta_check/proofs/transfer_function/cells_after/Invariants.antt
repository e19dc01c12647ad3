-- The locations so far.
use Rattle.std.proofs.Common.{◌≡◌, take, map}
use Rattle.tta_check.specs.Transfers.{kept_after}
use Rattle.tta_check.proofs.transfer_function.cells_after.Given as goal

abbrev pub invariant-loop-kept : goal.invariant-loop-kept
invariant-loop-kept l = l.list.items ≡ map (kept_after l.m l.i l.how l.cells) (take l.kept-index l.cells)
