-- What an instruction writes, slot by slot.
use Rattle.std.proofs.Common.{◌≡◌, ℕ, ◌+◌, ◌-◌, ◌<◌, ◌≤◌, ◌==◌, Bool, true, false, List, [], ◌∷◌, ◌++◌, length, drop, map, Option, None, Some, refl, sym, ap, ◌∙◌, subst, arith}
use Rattle.std.specs.Prelude.{get_or, slice_get, option_to_list, option_and_then, if◌then◌else◌}
use Rattle.std.specs.Option.{option_map_or}
use Rattle.std.specs.List.{filter_map, cons_option}
use Rattle.std.proofs.lemmas.List.{append_assoc, drop_more, get_or-map}
use Rattle.tta_places.specs.Cited.{Template, Machine, Kind, Jumps, Calls, Halts, Place, Effect, Written, KeptImm, long_effect, bring, moved, target_of, write_of, Move, Long, Instruction, State, Pending, effect_of, effects_of, long_effects, read_source, lands, takes_effect, HasWritten}
use Rattle.tta_places.specs.Carried.{carried}
use Rattle.tta_places.specs.Writes.{slot_writes, moves_write, long_writes, writes_in}

module _ (m : Machine) (back : ℕ) (s : State) where
  -- what some effects write
  abbrev all : List Effect → Written
  all es = filter_map (write_of m back) (filter_map (bring (read_source s)) es)

  moves_part : (slots : List (Option Move)) (rest : List Effect) → all (map effect_of (filter_map (λ o. o) slots) ++ rest) ≡ moves_write m back s slots ++ all rest
  moves_part [] rest = refl
  moves_part (None ∷ slots) rest = moves_part slots rest
  moves_part (Some v ∷ slots) rest = by (moves_part slots rest) (moved (read_source s) (effect_of v)) where
    put : all (map effect_of (filter_map (λ o. o) slots) ++ rest) ≡ moves_write m back s slots ++ all rest → (o : Option (Place × ℕ))
        → cons_option o (all (map effect_of (filter_map (λ o. o) slots) ++ rest)) ≡ (option_to_list o ++ moves_write m back s slots) ++ all rest
    put tail None = tail
    put tail (Some p) = ap (λ l. p ∷ l) tail

    by : all (map effect_of (filter_map (λ o. o) slots) ++ rest) ≡ moves_write m back s slots ++ all rest → (o : Option ℕ)
        → filter_map (write_of m back) (cons_option (option_map_or (λ word. Some (target_of v.dst, word)) o None) (filter_map (bring (read_source s)) (map effect_of (filter_map (λ o. o) slots) ++ rest)))
        ≡ (slot_writes m back (Some v) o ++ moves_write m back s slots) ++ all rest
    by tail None = tail
    by tail (Some w) = put tail (write_of m back (target_of v.dst, w))

  long_part : (long : Option Long) → all (long_effects m long) ≡ long_writes m long
  long_part None = refl
  long_part (Some l) = by (slice_get m.templates l.template) where
    by : (o : Option Template) → all (option_map_or (λ t. long_effect t.imm t.reg l.value ∷ []) o [])
        ≡ option_to_list (option_and_then (λ t. Some (KeptImm t.imm t.reg, l.value)) o)
    by None = refl
    by (Some t) = refl

  -- what an instruction writes is what its slots and its long immediate write
  pub written_in : (i : Instruction) → all (effects_of m i) ≡ writes_in m back s i
  written_in i = moves_part i.moves (long_effects m i.long) ∙ ap (λ l. moves_write m back s i.moves ++ l) (long_part i.long)

  -- what a move writes comes before what those after it write
  pub moves_next : (slots : List (Option Move)) (words : List (Option ℕ)) (i : ℕ) (d : Option Move) (old new : List (Option ℕ)) (ws : Written) → 0 < i → i ≤ length slots
      → words ≡ map (carried s) slots
      → ((rest : Written) → HasWritten old rest → HasWritten new (slot_writes m back (get_or slots (i - 1) d) (get_or words (i - 1) None) ++ rest))
      → HasWritten old (moves_write m back s (drop i slots) ++ ws) → HasWritten new (moves_write m back s (drop (i - 1) slots) ++ ws)
  moves_next slots words i d old new ws some within are writes had =
      let x = get_or slots (i - 1) d in
      let inside : i - 1 < length slots = omega (arith, some, within) in
      let next : i - 1 + 1 ≡ i = omega (arith, some) in
      let parts : drop (i - 1) slots ≡ x ∷ drop i slots = drop_more slots (i - 1) d inside ∙ ap (λ n. x ∷ drop n slots) next in
      let word : get_or words (i - 1) None ≡ carried s x = ap (λ l. get_or l (i - 1) None) are ∙ get_or-map (carried s) slots (i - 1) d None inside in
      let one = slot_writes m back x (carried s x) in
      let put = subst (λ o. HasWritten new (slot_writes m back x o ++ (moves_write m back s (drop i slots) ++ ws))) word (writes (moves_write m back s (drop i slots) ++ ws) had) in
      subst (λ l. HasWritten new (moves_write m back s l ++ ws)) (sym parts)
      (subst (λ l. HasWritten new l) (sym (append_assoc one (moves_write m back s (drop i slots)) ws)) put)

-- control that takes effect writes nothing
pub lands_writes : (s : State) (p : Option Pending) → (lands s p).written ≡ s.written
lands_writes s None = refl
lands_writes s (Some p) = by (p.time == s.cycle) where
  of : (k : Kind) → (takes_effect s (record p { kind = k })).written ≡ s.written
  of Jumps = refl
  of Calls = refl
  of Halts = refl

  by : (b : Bool) → (if b then takes_effect s p else s).written ≡ s.written
  by true = of p.kind
  by false = refl
