use Rattle.std.proofs.Common.{◌≡◌, map, take}
use Rattle.tta_sim.specs.Flat.{flat_write}
use Rattle.tta_sim.proofs.flat.flat_writes.Given as goal

abbrev pub invariant-loop-w : goal.invariant-loop-w
invariant-loop-w l = l.flat.items ≡ map flat_write (take l.w-index l.moves)
