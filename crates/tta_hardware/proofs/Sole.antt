-- Two moves of a legal instruction into one place are one.
use Rattle.std.proofs.Common.{◌≡◌, ℕ, zero, suc, ◌<◌, Bool, true, false, not, List, [], ◌∷◌, map, slice_get, Option, Some, None, sym, ap, ◌∙◌, inl, inr, arith}
use Rattle.std.specs.Prelude.{option_map, option_and_then}
use Rattle.std.specs.List.{list_any}
use Rattle.std.proofs.lemmas.Option.{none-some, same_Some}
use Rattle.std.proofs.lemmas.Bool.{and_parts, or_left, or_right, false≢true, not-true, cases_lt}
use Rattle.tta_hardware.specs.Cited.{Machine, Move, Instruction, ends_of, is_legal}
use Rattle.tta_arch.specs.Legal.{Ends, are_apart, same_place, ends_of as ends_in}
use Rattle.tta_code.proofs.LegalParts.{legal_parts}
use Rattle.tta_hardware.specs.Fields.{slot_at}

-- a move in a slot is one of the moves
any_slot : (q : Ends → Bool) (slots : List (Option Move)) (k : ℕ) (v : Move) → option_and_then (λ o. o) (slice_get slots k) ≡ Some v
    → q (ends_of v) ≡ true
    → list_any q (ends_in (map (option_map ends_of) slots)) ≡ true
any_slot q [] k v at pass = absurd (none-some v at)
any_slot q (None ∷ slots) zero v at pass = absurd (none-some v at)
any_slot q (Some w ∷ slots) zero v at pass = or_left (q (ends_of w)) (list_any q (ends_in (map (option_map ends_of) slots)))
    (ap (λ x. q (ends_of x)) (same_Some w v at) ∙ pass)
any_slot q (None ∷ slots) (suc k) v at pass = any_slot q slots k v at pass
any_slot q (Some w ∷ slots) (suc k) v at pass = or_right (q (ends_of w)) (list_any q (ends_in (map (option_map ends_of) slots)))
    (any_slot q slots k v at pass)

-- moves of two slots go into places that differ
apart_at : (slots : List (Option Move)) (a b : ℕ) (v w : Move) → are_apart (ends_in (map (option_map ends_of) slots)) ≡ true → a < b
    → option_and_then (λ o. o) (slice_get slots a) ≡ Some v → option_and_then (λ o. o) (slice_get slots b) ≡ Some w
    → same_place v.dst w.dst ≡ true → true ≡ false
apart_at [] a b v w apart less at at' same = absurd (none-some v at)
apart_at (o ∷ slots) a zero v w apart less at at' same = absurd (omega (arith, less))
apart_at (None ∷ slots) zero (suc b) v w apart less at at' same = absurd (none-some v at)
apart_at (Some x ∷ slots) zero (suc b) v w apart less at at' same =
    let parts = and_parts (not (list_any (λ e. same_place x.dst e.dst) (ends_in (map (option_map ends_of) slots))))
    (are_apart (ends_in (map (option_map ends_of) slots))) apart in
    sym (any_slot (λ e. same_place x.dst e.dst) slots b w at' (ap (λ y. same_place y.dst w.dst) (same_Some x v at) ∙ same))
    ∙ not-true (list_any (λ e. same_place x.dst e.dst) (ends_in (map (option_map ends_of) slots))) parts.0
apart_at (None ∷ slots) (suc a) (suc b) v w apart less at at' same = apart_at slots a b v w apart (omega (arith, less)) at at' same
apart_at (Some x ∷ slots) (suc a) (suc b) v w apart less at at' same =
    let parts = and_parts (not (list_any (λ e. same_place x.dst e.dst) (ends_in (map (option_map ends_of) slots))))
    (are_apart (ends_in (map (option_map ends_of) slots))) apart in
    apart_at slots a b v w parts.1 (omega (arith, less)) at at' same

-- two buses of a legal instruction whose moves go into one place are one bus
pub one_bus : (m : Machine) (i : Instruction) → is_legal m i ≡ true → (a b : ℕ) (v w : Move) → slot_at i a ≡ Some v → slot_at i b ≡ Some w
    → same_place v.dst w.dst ≡ true → same_place w.dst v.dst ≡ true → a ≡ b
one_bus m i legal a b v w at at' same back = elim (cases_lt a b) [
  | inl below ↦ absurd (false≢true (sym (apart_at i.moves a b v w (legal_parts m i legal).apart below at at' same)))
  | inr past ↦ elim (cases_lt b a) [
    | inl above ↦ absurd (false≢true (sym (apart_at i.moves b a w v (legal_parts m i legal).apart above at' at back)))
    | inr rest ↦ omega (arith, past, rest)
  ]
]
