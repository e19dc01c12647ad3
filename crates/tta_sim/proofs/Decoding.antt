-- Moves that are decoded one by one.
use Rattle.std.proofs.Common.{◌≡◌, ◌<◌, ◌+◌, ℕ, true, List, [], ◌∷◌, ◌++◌, length, take, get_or, Option, None, Some, refl, ap, sym, ◌∙◌, arith}
use Rattle.std.specs.Prelude.{option_to_list, option_and_then}
use Rattle.std.specs.List.{filter_map}
use Rattle.std.proofs.lemmas.List.{take_more, length-take-le}
use Rattle.std.proofs.lemmas.List.Elements.{filter_map-append}
use Rattle.tta_sim.specs.Cited.{Machine, Move, Instruction}
use Rattle.tta_sim.specs.declared.decoded.Line.{Line}
use Rattle.tta_sim.specs.Decoded.{write_decoded, start_decoded, control_decoded, line_of, lines_from, with_move}
use Rattle.tta_sim.proofs.Lists.{filter_map-one}

-- what a function gives of the moves that there are
abbrev pub of_slots : {A B : Type 0} → (A → Option B) → List (Option A) → List B
of_slots f slots = filter_map f (filter_map (λ o. o) slots)

of_slots-append : {A B : Type 0} (f : A → Option B) (xs ys : List (Option A)) → of_slots f (xs ++ ys) ≡ of_slots f xs ++ of_slots f ys
of_slots-append {A} {B} f xs ys =
    let moves : Option A → Option A = λ o. o in
    ap (filter_map f) (filter_map-append moves xs ys) ∙ filter_map-append f (filter_map moves xs) (filter_map moves ys)

of_slots-one : {A B : Type 0} (f : A → Option B) (o : Option A) → of_slots f (o ∷ []) ≡ option_to_list (option_and_then f o)
of_slots-one f None = refl
of_slots-one f (Some x) = filter_map-one f x

-- one more slot was decoded
pub of_slots-more : {A B : Type 0} (f : A → Option B) (slots : List (Option A)) (i : ℕ) (d : Option A) (old new : List B) → i < length slots
    → old ≡ of_slots f (take i slots) → new ≡ old ++ option_to_list (option_and_then f (get_or slots i d)) → new ≡ of_slots f (take (i + 1) slots)
of_slots-more f slots i d old new within before added =
    added ∙ ap (λ xs. xs ++ option_to_list (option_and_then f (get_or slots i d))) before
    ∙ ap (λ xs. of_slots f (take i slots) ++ xs) (sym (of_slots-one f (get_or slots i d)))
    ∙ sym (of_slots-append f (take i slots) (get_or slots i d ∷ []))
    ∙ ap (of_slots f) (sym (take_more slots i d within))

-- what the moves of some slots do
abbrev pub moves_noted : Machine → (back : ℕ) → List (Option Move) → Line
moves_noted m back slots = record {
  writes = of_slots (write_decoded m back) slots;
  starts = of_slots (start_decoded m) slots;
  controls = of_slots control_decoded slots;
  pure = true;
}

pub moves-more : (m : Machine) (back : ℕ) (slots : List (Option Move)) (i : ℕ) (d : Option Move) (old new : Line) → i < length slots
    → old ≡ moves_noted m back (take i slots) → new ≡ with_move m back old (get_or slots i d) → new ≡ moves_noted m back (take (i + 1) slots)
moves-more m back slots i d old new within before added =
    let slot = get_or slots i d in
    let writes : of_slots (write_decoded m back) (take i slots) ++ option_to_list (option_and_then (write_decoded m back) slot) ≡ of_slots (write_decoded m back) (take (i + 1) slots) =
    of_slots-more (write_decoded m back) slots i d _ _ within refl refl in
    let starts : of_slots (start_decoded m) (take i slots) ++ option_to_list (option_and_then (start_decoded m) slot) ≡ of_slots (start_decoded m) (take (i + 1) slots) =
    of_slots-more (start_decoded m) slots i d _ _ within refl refl in
    let controls : of_slots control_decoded (take i slots) ++ option_to_list (option_and_then control_decoded slot) ≡ of_slots control_decoded (take (i + 1) slots) =
    of_slots-more control_decoded slots i d _ _ within refl refl in
    added ∙ ap (λ line. with_move m back line slot) before
    ∙ ap (λ list. record (with_move m back (moves_noted m back (take i slots)) slot) { writes = list }) writes
    ∙ ap (λ list. record (with_move m back (moves_noted m back (take i slots)) slot) { writes = of_slots (write_decoded m back) (take (i + 1) slots); starts = list }) starts
    ∙ ap (λ list. record (moves_noted m back (take (i + 1) slots)) { controls = list }) controls

lines-append : (m : Machine) (back : ℕ) (is : List Instruction) (i : Instruction) → lines_from m back (is ++ i ∷ []) ≡ lines_from m back is ++ line_of m (back + length is) i ∷ []
lines-append m back [] i = ap (λ n. line_of m n i ∷ []) (omega arith)
lines-append m back (j ∷ is) i =
    ap (λ list. line_of m back j ∷ list) (lines-append m (back + 1) is i)
    ∙ ap (λ n. line_of m back j ∷ (lines_from m (back + 1) is ++ line_of m n i ∷ [])) (omega arith)

-- one more instruction was decoded
pub lines-more : (m : Machine) (back : ℕ) (is : List Instruction) (i : ℕ) (d : Instruction) (old new : List Line) → i < length is
    → old ≡ lines_from m back (take i is) → new ≡ old ++ line_of m (back + i) (get_or is i d) ∷ [] → new ≡ lines_from m back (take (i + 1) is)
lines-more m back is i d old new within before added =
    let x = get_or is i d in
    let here : length (take i is) ≡ i = length-take-le i is (omega (arith, within)) in
    added ∙ ap (λ list. list ++ line_of m (back + i) x ∷ []) before
    ∙ ap (λ n. lines_from m back (take i is) ++ line_of m (back + n) x ∷ []) (sym here)
    ∙ sym (lines-append m back (take i is) x) ∙ ap (lines_from m back) (sym (take_more is i d within))
