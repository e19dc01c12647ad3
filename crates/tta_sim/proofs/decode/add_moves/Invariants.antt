use Rattle.std.proofs.Common.{◌≡◌, take}
use Rattle.tta_sim.proofs.Decoding.{moves_noted}
use Rattle.tta_sim.proofs.decode.add_moves.Given as goal

abbrev pub invariant-loop-slot : goal.invariant-loop-slot
invariant-loop-slot l = l.line ≡ moves_noted l.m l.back (take l.slot-index l.slot-items)
