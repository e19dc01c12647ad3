use Rattle.std.proofs.Common.{◌≡◌, map, take}
use Rattle.tta_sim.specs.Flat.{flat_control}
use Rattle.tta_sim.proofs.flat.flat_controls.Given as goal

abbrev pub invariant-loop-t : goal.invariant-loop-t
invariant-loop-t l = l.flat.items ≡ map flat_control (take l.t-index l.moves)
