use Rattle.std.proofs.Common.{◌≡◌, List, true, ◌∷◌, refl}
use Rattle.tta_loadelim.specs.declared.facts.Fact.{Fact}
use Rattle.tta_loadelim.specs.AvailableSlots.{known}
use Rattle.tta_loadelim.specs.Facts.{are_among}
use Rattle.tta_loadelim.proofs.Noting.{all_stay, loads_known, twins_known, stores_known, copies_known, rest_known}
use Rattle.tta_loadelim.proofs.available_slots.AvailableSlots.pass.Goals as goal

pub returns : goal.returns
returns c before knows =
    let all : List Fact = known c.args.m.now (c.args.x ∷ before) in
    let none : are_among all c.new-facts.result.items ≡ true = rw c.new-facts.ensures refl in
    let one = c.note_load.ensures all none (loads_known c.args.m.now before c.args.x) in
    let two = c.note_store.ensures before all knows one (twins_known c.args.m.now before c.args.x) (stores_known c.args.m.now before c.args.x) in
    let three = c.note_copies.ensures before all knows two (copies_known c.args.m.now before c.args.x) in
    let four = c.note_rest.ensures before all knows three (rest_known c.args.m.now before c.args.x) in
    record { operand = c.operand_after-self-2.ensures c.args.m.now before knows.operand; newest = (before, refl); facts = four }

pub returns-then-is_operand : goal.returns-then-is_operand
returns-then-is_operand c before knows = record {
  operand = c.operand_after-self.ensures c.args.m.now before knows.operand;
  newest = (before, refl);
  facts = all_stay c.args.m.now before c.args.x c.args.self.now.facts.items knows.facts (λ f. c.is_operand.ensures c.args.m.now before f c.if-is_operand.true);
}
