use Rattle.std.proofs.Common.{◌≡◌, drop}
use Rattle.std.specs.List.{list_any}
use Rattle.tta_sim.specs.Cited.{takes}
use Rattle.tta_sim.proofs.starts.any_takes.Given as goal

abbrev pub invariant-loop-start : goal.invariant-loop-start
invariant-loop-start l = list_any takes l.starts ≡ list_any takes (drop l.start-index l.starts)
