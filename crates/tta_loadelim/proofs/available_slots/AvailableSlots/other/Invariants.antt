use Rattle.std.proofs.Common.{◌≡◌, List, true, IfSome}
use Rattle.tta_loadelim.specs.Cited.{Item}
use Rattle.tta_loadelim.specs.AvailableSlots.{fact, known, have_one}
use Rattle.tta_loadelim.specs.Facts.{is_among, Knows}
use Rattle.tta_loadelim.proofs.available_slots.AvailableSlots.other.Given as goal

abbrev pub invariant-loop-f : goal.invariant-loop-f
invariant-loop-f l = record {
  asked : IfSome l.slot (λ v. is_among l.self.facts.items (fact v l.src) ≡ true);
  found : (before : List Item) → Knows l.on.machine.now before l.self → IfSome l.oldest (λ b. have_one (known l.on.machine.now before) l.src b ≡ true);
}
