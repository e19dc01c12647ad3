-- What is found of the slots of an instruction, one after another.
use Rattle.std.proofs.Common.{◌≡◌, ℕ, ◌<◌, Bool, List, None, Option, get_or, length, map, sym, ap, ◌∙◌}
use Rattle.std.proofs.lemmas.List.{get_or-map}
use Rattle.tta_profile.specs.Cited.{Machine, Written, Move, State, carried}
use Rattle.tta_profile.specs.declared.outside.Space.{Space}
use Rattle.tta_profile.specs.Outside.{is_outside, is_past, slot_address, words_of}

-- what is found with the word of a slot, from the row of the words of all slots, is whether its move accesses the space outside
pub slot_found : (m : Machine) (space : Space) (after : Written) (s : State) (slots : List (Option Move)) (words : List (Option ℕ)) (k : ℕ) (d : Option Move)
    (count : ℕ) (word address : Option ℕ) (found : Bool) → k < length slots → words ≡ map (carried s) slots → count ≡ length (words_of space s)
    → word ≡ get_or words k None → address ≡ slot_address m space after (get_or slots k d) word → found ≡ is_past count address
    → is_outside m space after s (get_or slots k d) ≡ found
slot_found m space after s slots words k d count word address found within are size at is finds =
    let x = get_or slots k d in
    let carries : word ≡ carried s x = at ∙ ap (λ l. get_or l k None) are ∙ get_or-map (carried s) slots k d None within in
    sym (finds ∙ ap (is_past count) (is ∙ ap (slot_address m space after x) carries) ∙ ap (λ n. is_past n (slot_address m space after x (carried s x))) size)
