use Rattle.std.proofs.Common.{take}
use Rattle.tta_alloc.specs.Cited.{Sets, is_found}
use Rattle.tta_alloc.proofs.taken.add_all.Given as goal

abbrev pub invariant-loop-place : goal.invariant-loop-place
invariant-loop-place l = Sets (is_found (take l.place-index l.places)) l.initial.row l.row
