use Rattle.std.proofs.Common.{take}
use Rattle.tta_flow.specs.Growth.{Sets}
use Rattle.tta_flow.specs.Search.{is_found}
use Rattle.tta_flow.proofs.rows.due_all.Given as goal

abbrev pub invariant-loop-place : goal.invariant-loop-place
invariant-loop-place l = Sets (is_found (take l.place-index l.places)) l.initial.due l.due
