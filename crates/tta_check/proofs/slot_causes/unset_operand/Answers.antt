-- Whether the word is given is told slot by slot.
use Rattle.std.proofs.Common.{ap, sym, ◌∙◌}
use Rattle.std.specs.Prelude.{◌&&◌, not, Bool}
use Rattle.std.specs.List.{list_any}
use Rattle.tta_check.specs.Cited.{KeptOperand, effects_of}
use Rattle.tta_check.specs.Facts.{Unset}
use Rattle.tta_check.specs.Causes.{unset_operand}
use Rattle.tta_check.specs.States.{tells}
use Rattle.tta_check.specs.Codes.{in_slot, gives_in}
use Rattle.tta_check.proofs.Slots.{operand_slot}
use Rattle.tta_check.proofs.slot_causes.unset_operand.Goals as goal

pub returns-then-not-is_given : goal.returns-then-not-is_given
returns-then-not-is_given c =
    let m = c.args.m.now in
    let i = c.args.i.now in
    let has = tells c.args.state.now in
    let unit = c.in-Some-wants.unit in
    let is = ap (in_slot has (unset_operand m (effects_of m i))) c.in-Some.is in
    let told = operand_slot m i has c.in-Some.v unit (sym c.wants.ensures ∙ c.in-Some-wants.is) in
    let none = sym (c.is_given.ensures ∙ ap (list_any (gives_in unit c.in-Some.v.guard)) c.as_slice.ensures) ∙ c.if-not-is_given.true in
    c.is_unset.ensures ∙ sym (is ∙ told ∙ ap (λ (b : Bool). not b && has (Unset (KeptOperand unit))) none)

pub returns-else-not-is_given : goal.returns-else-not-is_given
returns-else-not-is_given c =
    let m = c.args.m.now in
    let i = c.args.i.now in
    let has = tells c.args.state.now in
    let unit = c.in-Some-wants.unit in
    let is = ap (in_slot has (unset_operand m (effects_of m i))) c.in-Some.is in
    let told = operand_slot m i has c.in-Some.v unit (sym c.wants.ensures ∙ c.in-Some-wants.is) in
    let some = sym (c.is_given.ensures ∙ ap (list_any (gives_in unit c.in-Some.v.guard)) c.as_slice.ensures) ∙ c.if-not-is_given.false in
    ap not c.if-not-is_given.false ∙ sym (is ∙ told ∙ ap (λ (b : Bool). not b && has (Unset (KeptOperand unit))) some)
