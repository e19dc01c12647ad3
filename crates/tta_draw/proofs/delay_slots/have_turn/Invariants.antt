use Rattle.std.proofs.Common.{◌≡◌, drop}
use Rattle.std.specs.List.{list_any}
use Rattle.tta_draw.specs.DelaySlots.{has_turn}
use Rattle.tta_draw.proofs.delay_slots.have_turn.Given as goal

abbrev pub invariant-loop-i : goal.invariant-loop-i
invariant-loop-i l = list_any has_turn (drop l.i-index l.words) ≡ list_any has_turn l.words
