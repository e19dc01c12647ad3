use Rattle.std.proofs.Common.{◌≡◌, drop}
use Rattle.std.specs.List.{find}
use Rattle.tta_sim.specs.Starts.{puts}
use Rattle.tta_sim.proofs.spaces.put_out.Given as goal

abbrev pub invariant-loop-start : goal.invariant-loop-start
invariant-loop-start l = find puts l.starts ≡ find puts (drop l.start-index l.starts)
