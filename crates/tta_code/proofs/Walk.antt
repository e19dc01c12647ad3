-- The first rule that is broken, as buses are walked one by one.
use Rattle.std.proofs.Common.{◌≡◌, ◌<◌, ◌≤◌, ◌+◌, ℕ, true, false, List, [], ◌∷◌, ◌++◌, length, take, drop, get_or, append-nil, Option, Some, None, refl, sym, ap, subst, ◌∙◌, arith}
use Rattle.std.specs.Prelude.{◌==◌, nat_le}
use Rattle.std.specs.Option.{option_map, option_or}
use Rattle.std.proofs.lemmas.Bool.{and_parts, and_from, le-leb, eqb-true, false_from_ne_true}
use Rattle.std.proofs.lemmas.List.{append_assoc, length-take-le, map-append, take_more, drop_more, drop_all}
use Rattle.tta_list.proofs.Tests.{option_or-none}
use Rattle.tta_code.specs.Cited.{Template, Machine, IsMachine, Slots, keeps_taken, is_joined, has_reads, has_writes, are_apart, can_move}
use Rattle.tta_arch.specs.Legal.{ends_of}
use Rattle.tta_code.specs.declared.legality.Illegal.{Illegal}
use Rattle.tta_code.specs.declared.code.Move.{Move}
use Rattle.tta_code.specs.declared.code.Instruction.{Instruction}
use Rattle.tta_code.specs.Legal.{ends_of as move_ends, slots_of, taken, is_instruction, is_legal}
use Rattle.tta_code.specs.Illegal.{taken_by, broken, broken_by, first_broken, first_illegal, TellsLegal}
use Rattle.tta_code.proofs.PortLemmas.{most_reads, most_writes, has_file_reads, has_imm_reads, slots_from}
use Rattle.tta_code.proofs.KeptRules.{KeepsAll, keeps_from_broken, broken_from_keeps, some_none, broken-more, keeps-none, keeps-prefix}
use Rattle.tta_arch.proofs.Below.{all_below-true}

-- ---- the walk

-- where nothing is reported, all buses keep the rules
keeps-from_first : (m : Machine) (taken : ℕ) (walked further : Slots) → KeepsAll m taken walked → first_broken m taken walked further ≡ None
    → KeepsAll m taken (walked ++ further)
keeps-from_first m taken walked [] keeps none = subst (KeepsAll m taken) (sym (append-nil walked)) keeps
keeps-from_first m taken walked (o ∷ os) keeps none =
    let parts = option_or-none (broken m taken (walked ++ o ∷ [])) (first_broken m taken (walked ++ o ∷ []) os) none in
    subst (KeepsAll m taken) (append_assoc walked (o ∷ []) os)
    (keeps-from_first m taken (walked ++ o ∷ []) os (keeps_from_broken m taken (walked ++ o ∷ []) parts.0) parts.1)

-- and the other way round
first-from_keeps : (m : Machine) (taken : ℕ) (walked further : Slots) → KeepsAll m taken (walked ++ further) → first_broken m taken walked further ≡ None
first-from_keeps m taken walked [] keeps = refl
first-from_keeps m taken walked (o ∷ os) keeps =
    let whole = subst (KeepsAll m taken) (sym (append_assoc walked (o ∷ []) os)) keeps in
    let here = broken_from_keeps m taken (walked ++ o ∷ []) (keeps-prefix m taken (walked ++ o ∷ []) os whole) in
    ap (λ b. option_or b (first_broken m taken (walked ++ o ∷ []) os)) here ∙ first-from_keeps m taken (walked ++ o ∷ []) os whole

-- no bus breaks nothing
pub keeps-empty : (m : Machine) (taken : ℕ) → KeepsAll m taken []
keeps-empty m taken = record {
  untaken = refl;
  joined = refl;
  reads = and_from (has_file_reads m []) (has_imm_reads m [])
      (all_below-true (λ f. nat_le 0 (most_reads m f)) (length m.files) (λ k. le-leb 0 (most_reads m k) (omega arith)))
      (all_below-true (λ u. nat_le 0 1) (length m.imms) (λ k. refl));
  writes = all_below-true (λ f. nat_le 0 (most_writes m f)) (length m.files) (λ k. le-leb 0 (most_writes m k) (omega arith));
  apart = refl;
}

can_move-from_keeps : (m : Machine) (taken : ℕ) (slots : Slots) → KeepsAll m taken slots → can_move m taken slots ≡ true
unfolding can_move
can_move-from_keeps m taken slots keeps =
    and_from _ _ (and_from _ _ (and_from _ _ (and_from _ _ keeps.untaken keeps.joined) keeps.reads) keeps.writes) keeps.apart

keeps-from_can_move : (m : Machine) (taken : ℕ) (slots : Slots) → can_move m taken slots ≡ true → KeepsAll m taken slots
unfolding can_move
keeps-from_can_move m taken slots can =
    let p1 = and_parts _ (are_apart (ends_of slots)) can in
    let p2 = and_parts _ (has_writes m slots) p1.0 in
    let p3 = and_parts _ (has_reads m slots) p2.0 in
    let p4 = and_parts (keeps_taken taken slots) (is_joined m slots) p3.0 in
    record { untaken = p4.0; joined = p4.1; reads = p3.1; writes = p2.1; apart = p1.1 }

legal_from_none : (m : Machine) (i : Instruction) → is_instruction m i ≡ true → first_illegal m i ≡ None → is_legal m i ≡ true
unfolding is_legal first_illegal
legal_from_none m i is none =
    and_from (is_instruction m i) (can_move m (taken m i) (slots_of i)) is
    (can_move-from_keeps m (taken m i) (slots_of i) (keeps-from_first m (taken m i) [] (slots_of i) (keeps-empty m (taken m i)) none))

none_from_legal : (m : Machine) (i : Instruction) → is_legal m i ≡ true → first_illegal m i ≡ None
unfolding is_legal first_illegal
none_from_legal m i legal =
    first-from_keeps m (taken m i) [] (slots_of i)
    (keeps-from_can_move m (taken m i) (slots_of i) (and_parts (is_instruction m i) (can_move m (taken m i) (slots_of i)) legal).1)

-- an instruction breaks no rule exactly where it is legal
pub tells_legal : TellsLegal
tells_legal m i is = (legal_from_none m i is, none_from_legal m i)

pub illegal_from_some : (m : Machine) (i : Instruction) {why : Illegal} → first_illegal m i ≡ Some why → is_legal m i ≡ false
illegal_from_some m i told_why = false_from_ne_true (is_legal m i) (λ legal. some_none (sym told_why ∙ none_from_legal m i legal))

-- ---- the loop over the buses of an instruction

-- the buses below this one keep the rules, and what is reported is found from here on
pub record IsWalked (m : Machine) (i : Instruction) (taken bus : ℕ) (moves : List (Option Move)) : Type 0 where
  pub keeps : KeepsAll m taken (slots_from (take bus moves))
  pub first : first_illegal m i ≡ first_broken m taken (slots_from (take bus moves)) (slots_from (drop bus moves))

start_at : (m : Machine) (i : Instruction) → IsWalked m i (taken m i) 0 i.moves
unfolding first_illegal
start_at m i = record { keeps = keeps-empty m (taken m i); first = refl }

pub walk_start : (m : Machine) (i : Instruction) (set : ℕ) (templates : List Template) (moves : List (Option Move)) → set ≡ taken_by templates i.long → templates ≡ m.templates
    → moves ≡ i.moves → IsWalked m i set 0 moves
walk_start m i set templates moves is from all =
    subst (λ (l : List (Option Move)). IsWalked m i set 0 l) (sym all)
    (subst (λ (t : ℕ). IsWalked m i t 0 i.moves) (sym (is ∙ ap (λ (l : List Template). taken_by l i.long) from)) (start_at m i))

-- what is reported where a bus is walked
walk_first : (m : Machine) (i : Instruction) (taken bus : ℕ) (moves : List (Option Move)) (slot : Option Move) → bus < length moves → get_or moves bus None ≡ slot
    → IsWalked m i taken bus moves
    → (slots_from (take (bus + 1) moves) ≡ slots_from (take bus moves) ++ option_map move_ends slot ∷ [])
    × (first_illegal m i ≡ option_or (broken m taken (slots_from (take (bus + 1) moves))) (first_broken m taken (slots_from (take (bus + 1) moves)) (slots_from (drop (bus + 1) moves))))
walk_first m i taken bus moves slot below read walked = (more, first) where
  more : slots_from (take (bus + 1) moves) ≡ slots_from (take bus moves) ++ option_map move_ends slot ∷ []
  more =
      ap slots_from (take_more moves bus None below) ∙ map-append (option_map move_ends) (take bus moves) (get_or moves bus None ∷ [])
      ∙ ap (λ (o : Option Move). slots_from (take bus moves) ++ option_map move_ends o ∷ []) read

  rest : slots_from (drop bus moves) ≡ option_map move_ends slot ∷ slots_from (drop (bus + 1) moves)
  rest = ap slots_from (drop_more moves bus None below) ∙ ap (λ (o : Option Move). option_map move_ends o ∷ slots_from (drop (bus + 1) moves)) read

  first : first_illegal m i ≡ option_or (broken m taken (slots_from (take (bus + 1) moves))) (first_broken m taken (slots_from (take (bus + 1) moves)) (slots_from (drop (bus + 1) moves)))
  first =
      walked.first ∙ ap (first_broken m taken (slots_from (take bus moves))) rest
      ∙ ap (λ (l : Slots). option_or (broken m taken l) (first_broken m taken l (slots_from (drop (bus + 1) moves)))) (sym more)

walk_on : (m : Machine) (i : Instruction) (taken bus : ℕ) (moves : List (Option Move)) (slot : Option Move) → bus < length moves → get_or moves bus None ≡ slot
    → IsWalked m i taken bus moves → KeepsAll m taken (slots_from (take bus moves) ++ option_map move_ends slot ∷ []) → IsWalked m i taken (bus + 1) moves
walk_on m i taken bus moves slot below read walked keeps =
    let step = walk_first m i taken bus moves slot below read walked in
    let now = subst (KeepsAll m taken) (sym step.0) keeps in
    record {
      keeps = now;
      first = step.1 ∙ ap (λ o. option_or o (first_broken m taken (slots_from (take (bus + 1) moves)) (slots_from (drop (bus + 1) moves)))) (broken_from_keeps m taken _ now);
    }

-- an empty bus
pub walk_empty : (m : Machine) (i : Instruction) (taken bus : ℕ) (moves : List (Option Move)) → bus < length moves → get_or moves bus None ≡ None
    → IsWalked m i taken bus moves → IsWalked m i taken (bus + 1) moves
walk_empty m i taken bus moves below read walked = walk_on m i taken bus moves None below read walked (keeps-none m taken _ walked.keeps)

-- a bus whose move breaks nothing
pub walk_move : (m : Machine) (i : Instruction) (taken bus : ℕ) (moves before : List (Option Move)) (v : Move) → bus < length moves → get_or moves bus None ≡ Some v
    → before ≡ take bus moves → None ≡ broken_by m taken before v → IsWalked m i taken bus moves → IsWalked m i taken (bus + 1) moves
walk_move m i taken bus moves before v below read is none walked =
    walk_on m i taken bus moves (Some v) below read walked
    (keeps_from_broken m taken _ (broken-more m taken (take bus moves) v walked.keeps ∙ ap (λ b. broken_by m taken b v) (sym is) ∙ sym none))

-- a bus whose move breaks a rule
pub walk_stop : (m : Machine) (i : Instruction) (taken bus : ℕ) (moves before : List (Option Move)) (v : Move) (why : Illegal) → bus < length moves → get_or moves bus None ≡ Some v
    → before ≡ take bus moves → Some why ≡ broken_by m taken before v → IsWalked m i taken bus moves → first_illegal m i ≡ Some why
walk_stop m i taken bus moves before v why below read is some walked =
    let step = walk_first m i taken bus moves (Some v) below read walked in
    let here : broken m taken (slots_from (take (bus + 1) moves)) ≡ Some why =
    ap (broken m taken) step.0 ∙ broken-more m taken (take bus moves) v walked.keeps ∙ ap (λ b. broken_by m taken b v) (sym is) ∙ sym some in
    step.1 ∙ ap (λ o. option_or o (first_broken m taken (slots_from (take (bus + 1) moves)) (slots_from (drop (bus + 1) moves)))) here

-- all buses are walked
pub walk_end : (m : Machine) (i : Instruction) (taken bus : ℕ) (moves : List (Option Move)) → length moves ≤ bus → IsWalked m i taken bus moves → first_illegal m i ≡ None
walk_end m i taken bus moves past walked =
    walked.first ∙ ap (λ l. first_broken m taken (slots_from (take bus moves)) (slots_from l)) (drop_all bus moves past)

-- an instruction has 16 buses at most
pub few_before : (m : Machine) (i : Instruction) (bus : ℕ) (moves : List (Option Move)) → IsMachine m → is_instruction m i ≡ true → moves ≡ i.moves → bus < length moves
    → length (take bus moves) < 16
few_before m i bus moves rules is all below =
    let count = eqb-true (length i.moves) (length m.buses) (and_parts (length i.moves == length m.buses) _ is).0 in
    let same : length moves ≡ length i.moves = ap length all in
    let few = rules.limits.buses in
    omega (arith, count, same, few, length-take-le bus moves (omega arith))
