use Rattle.std.proofs.Common.{◌≡◌, List, true}
use Rattle.tta_loadelim.specs.Cited.{Item}
use Rattle.tta_loadelim.specs.declared.facts.Fact.{Fact}
use Rattle.tta_loadelim.specs.AvailableSlots.{known, by_copy}
use Rattle.tta_loadelim.specs.Facts.{are_among, Knows}
use Rattle.tta_loadelim.proofs.available_slots.AvailableSlots.note_copies.Given as goal

abbrev pub invariant-loop-f : goal.invariant-loop-f
invariant-loop-f l =
    (before : List Item) (all : List Fact) → Knows l.m before l.self → are_among all l.fn.facts.items ≡ true → are_among all (by_copy l.m (known l.m before) l.fn.x) ≡ true → are_among all l.facts.items ≡ true
