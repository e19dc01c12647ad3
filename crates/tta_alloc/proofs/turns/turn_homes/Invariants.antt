use Rattle.std.proofs.Common.{take}
use Rattle.tta_alloc.proofs.TurnLemmas.{Turned}
use Rattle.tta_alloc.proofs.turns.turn_homes.Given as goal

abbrev pub invariant-loop-new : goal.invariant-loop-new
invariant-loop-new l = Turned l.q l.homes l.first.items l.turns.homes.items (take l.new-index l.taken) l.turns.from.items
