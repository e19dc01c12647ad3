use Rattle.tta_code.proofs.Walk.{IsWalked}
use Rattle.tta_code.proofs.legality.legal.Given as goal

abbrev pub invariant-loop-bus : goal.invariant-loop-bus
invariant-loop-bus l = IsWalked l.m l.i l.taken l.bus l.moves
