use Rattle.std.proofs.Common.{◌≡◌, map, take}
use Rattle.tta_sim.specs.Flat.{flat_start}
use Rattle.tta_sim.proofs.flat.flat_starts.Given as goal

abbrev pub invariant-loop-s : goal.invariant-loop-s
invariant-loop-s l = l.flat.items ≡ map flat_start (take l.s-index l.moves)
