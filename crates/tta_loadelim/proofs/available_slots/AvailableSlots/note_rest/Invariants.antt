use Rattle.std.proofs.Common.{◌≡◌, List, true, filter}
use Rattle.tta_loadelim.specs.Cited.{Item}
use Rattle.tta_loadelim.specs.declared.facts.Fact.{Fact}
use Rattle.tta_loadelim.specs.AvailableSlots.{known, stays}
use Rattle.tta_loadelim.specs.Facts.{are_among, Knows}
use Rattle.tta_loadelim.proofs.available_slots.AvailableSlots.note_rest.Given as goal

abbrev pub invariant-loop-f : goal.invariant-loop-f
invariant-loop-f l =
    (before : List Item) (all : List Fact) → Knows l.m before l.self → are_among all l.fn.facts.items ≡ true → are_among all (filter (stays l.m before l.fn.x) (known l.m before)) ≡ true
    → are_among all l.facts.items ≡ true
