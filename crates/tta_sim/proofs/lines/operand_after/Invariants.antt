use Rattle.std.proofs.Common.{◌≡◌, drop}
use Rattle.tta_sim.specs.Lines.{operand_in}
use Rattle.tta_sim.proofs.lines.operand_after.Given as goal

abbrev pub invariant-loop-w : goal.invariant-loop-w
invariant-loop-w l = operand_in l.places l.writes l.unit ≡ operand_in l.places (drop l.w-index l.writes) l.unit
