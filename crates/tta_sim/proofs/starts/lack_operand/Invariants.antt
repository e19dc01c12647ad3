use Rattle.std.proofs.Common.{◌≡◌, drop}
use Rattle.std.specs.List.{list_any}
use Rattle.tta_sim.specs.Cited.{lacks_operand}
use Rattle.tta_sim.proofs.starts.lack_operand.Given as goal

abbrev pub invariant-loop-start : goal.invariant-loop-start
invariant-loop-start l = list_any lacks_operand l.starts ≡ list_any lacks_operand (drop l.start-index l.starts)
