use Rattle.std.proofs.Common.{◌≡◌, ℕ, true, ap, ◌∙◌, length, map, rules}
use Rattle.std.specs.Prelude.{◌==◌}
use Rattle.std.proofs.lemmas.List.{length-map}
use Rattle.tta_asm.specs.Cited.{Machine}
use Rattle.tta_asm.specs.Seen.{slot_seen}
use Rattle.tta_asm.proofs.instruction.all_moves.Goals as goal

-- equal numbers are found equal
counted : (a b : ℕ) → a ≡ b → (a == b) ≡ true
counted a b e = search rules

pub returns-clause-answer : goal.returns-clause-answer
returns-clause-answer g c =
    let same = c.if-slots-len.false ∙ c.len.ensures ∙ ap (λ (m : Machine). length m.buses) c.m.view_is in
    let met = counted (length (map slot_seen c.args.slots.now)) (length c.args.target.now.machine.now.buses) (rw length-map same) in
    rw met c.moves_of.ensures.answer

pub returns-clause-count : goal.returns-clause-count
returns-clause-count g c =
    let same = c.if-slots-len.false ∙ c.len.ensures ∙ ap (λ (m : Machine). length m.buses) c.m.view_is in
    rw same at c.moves_of.ensures.count

pub moves_of-requires : goal.moves_of-requires
moves_of-requires g c = rw (c.if-slots-len.false, c.len.ensures) c.m.invariant.limits.buses
