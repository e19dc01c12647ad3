-- The slots of an instruction are printed one after another.
use Rattle.std.proofs.Common.{◌≡◌, ℕ, ◌+◌, ◌-◌, ◌<◌, ◌≤◌, List, [], ◌∷◌, ◌++◌, length, take, drop, get_or, ap, sym, ◌∙◌, arith, le_refl}
use Rattle.std.specs.Prelude.{Option, None}
use Rattle.std.specs.List.{flat_map}
use Rattle.std.proofs.lemmas.List.{append-nil, append_assoc, take_all, take_more}
use Rattle.std.proofs.lemmas.Grind.{flat_map-append}
use Rattle.tta_disasm.specs.Cited.{Units, Machine, Move}
use Rattle.tta_disasm.specs.Canonical.{slot_text, slots_text}
use Rattle.tta_disasm.specs.Printing.{later_slot_text}

-- the first slot, and then each other with a comma before it
pub slots_by_comma : (u : Units) (m : Machine) (slot : Option Move) (slots : List (Option Move))
    → slots_text u m (slot ∷ slots) ≡ slot_text u m slot ++ flat_map (later_slot_text u m) slots
slots_by_comma u m slot [] = sym (append-nil (slot_text u m slot))
slots_by_comma u m slot (next ∷ slots) =
    let comma : List ℕ = 32 ∷ 44 ∷ 32 ∷ [] in
    ap (λ t. slot_text u m slot ++ (comma ++ t)) (slots_by_comma u m next slots)
    ∙ ap (λ t. slot_text u m slot ++ t) (sym (append_assoc comma (slot_text u m next) (flat_map (later_slot_text u m) slots)))

-- the slots that are left after the first
rest_of : {A : Type 0} (x : A) (xs : List A) → take (length (x ∷ xs) - 1) xs ≡ xs
rest_of x xs = let n : length (x ∷ xs) - 1 ≡ length xs = omega arith in rw n (take_all (length xs) xs (le_refl (length xs)))

-- slots stand after a text once the first does, and then the others
pub slots_done : (u : Units) (m : Machine) (slots : List (Option Move)) (old first all : List ℕ) → 1 ≤ length slots
    → first ≡ old ++ slot_text u m (get_or slots 0 None)
    → all ≡ first ++ flat_map (later_slot_text u m) (take (length slots - 1) (drop 1 slots))
    → all ≡ old ++ slots_text u m slots
slots_done u m [] old first all some one more = absurd (omega arith)
slots_done u m (slot ∷ slots) old first all some one more =
    let end = rw (rest_of slot slots) at more in
    let text = slots_by_comma u m slot slots in
    rw (text, ← append_assoc old (slot_text u m slot) (flat_map (later_slot_text u m) slots), ← one) end

-- one item more stands after a text
pub text_more : {X : Type 0} (text : X → List ℕ) (xs : List X) (i : ℕ) (d x : X) (start old new : List ℕ) → i < length xs → x ≡ get_or xs i d
    → new ≡ old ++ text x → old ≡ start ++ flat_map text (take i xs) → new ≡ start ++ flat_map text (take (i + 1) xs)
text_more {X = X} text xs i d x start old new inside is more was =
    let before : List ℕ = flat_map text (take i xs) in
    let one : flat_map text (take (i + 1) xs) ≡ before ++ text x =
    ap (flat_map text) (take_more xs i d inside) ∙ flat_map-append text (take i xs) (get_or xs i d ∷ [])
    ∙ ap (λ (t : List ℕ). before ++ t) (append-nil (text (get_or xs i d))) ∙ ap (λ (y : X). before ++ text y) (sym is) in
    more ∙ ap (λ (t : List ℕ). t ++ text x) was ∙ append_assoc start before (text x) ∙ ap (λ (t : List ℕ). start ++ t) (sym one)
