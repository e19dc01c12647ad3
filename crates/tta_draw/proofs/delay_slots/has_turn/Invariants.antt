use Rattle.std.proofs.Common.{◌≡◌, drop, false}
use Rattle.std.specs.Option.{option_map_or}
use Rattle.std.specs.List.{list_any}
use Rattle.tta_draw.specs.DelaySlots.{steers, has_turn}
use Rattle.tta_draw.proofs.delay_slots.has_turn.Given as goal

abbrev pub invariant-loop-slot : goal.invariant-loop-slot
invariant-loop-slot l = list_any (λ slot. option_map_or (λ v. steers v.dst) slot false) (drop l.slot-index l.i.moves) ≡ has_turn l.i
