use Rattle.std.proofs.Common.{◌≡◌, ℕ, ◌<◌, ◌+◌, ◌∷◌, List, length, get_or, drop, Option, Some, sym, ap, ◌∙◌, arith}
use Rattle.std.proofs.lemmas.List.{drop_more}
use Rattle.tta_sim.specs.declared.lines.Write.{Write}
use Rattle.tta_sim.specs.Lines.{operand_in}
use Rattle.tta_sim.proofs.lines.operand_after.Goals as goal

operand_first : (places : List (Option ℕ)) (w : Write) (writes : List Write) (unit : ℕ) → w.place ≡ 576 + unit → operand_in places (w ∷ writes) unit ≡ Some w.word
operand_first places w writes unit is = grind (arith, is)

operand_here : (places : List (Option ℕ)) (writes : List Write) (unit i : ℕ) (d : Write) → i < length writes → operand_in places writes unit ≡ operand_in places (drop i writes) unit
    → (get_or writes i d).place ≡ 576 + unit → Some (get_or writes i d).word ≡ operand_in places writes unit
operand_here places writes unit i d within before is =
    sym (before ∙ ap (λ ws. operand_in places ws unit) (drop_more writes i d within) ∙ operand_first places (get_or writes i d) (drop (i + 1) writes) unit is)

pub returns-then-w-place : goal.returns-then-w-place
returns-then-w-place c =
    operand_here c.args.places.now c.args.writes.now c.args.unit c.loop-w.w-index _ c.loop-w-test.true c.loop-w.invariant (omega (arith, c.if-w-place.true, c.from-place.ensures))
