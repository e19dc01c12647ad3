use Rattle.std.proofs.Common.{ℕ, map, take}
use Rattle.tta_sim.specs.Results.{results_at}
use Rattle.tta_sim.specs.Dues.{started_at}
use Rattle.tta_sim.proofs.Beginning.{AreBegun}
use Rattle.tta_sim.proofs.begin.begin_all.Given as goal

abbrev pub invariant-loop-due : goal.invariant-loop-due
invariant-loop-due l = (now : ℕ) → AreBegun now (results_at l.part l.fn.region) (map (started_at now) (take l.due-index l.dues)) l.region
