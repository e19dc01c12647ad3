use Rattle.std.proofs.Common.{◌≡◌, map, take}
use Rattle.tta_sim.specs.Flat.{row_with}
use Rattle.tta_sim.specs.Known.{mark_of}
use Rattle.tta_sim.proofs.flat.rows_of.Given as goal

abbrev pub invariant-loop-line : goal.invariant-loop-line
invariant-loop-line l = l.rows.items ≡ map (λ x. row_with (mark_of x) x) (take l.line-index l.lines)
