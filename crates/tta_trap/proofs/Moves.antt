-- Whether a move of an instruction lacks a word: over its buses as over its effects.
use Rattle.std.proofs.Common.{◌≡◌, ℕ, suc, ◌+◌, ◌<◌, Bool, true, false, ◌||◌, List, [], ◌∷◌, length, map, slice_get, Option, Some, None, refl, sym, ap, ◌∙◌, arith}
use Rattle.std.specs.Prelude.{option_and_then}
use Rattle.std.specs.Option.{option_map_or}
use Rattle.std.specs.List.{list_any, filter_map, range_with_len}
use Rattle.std.proofs.lemmas.Bool.{or_parts, eqb-true}
use Rattle.std.proofs.lemmas.List.Folds.{list_any-append}
use Rattle.tta_code.proofs.LegalParts.{legal_parts}
use Rattle.tta_hardware.specs.Cited.{Units, Template, Machine, IsMachine, numbers, Effect, is_register, has_unset_guard, has_unset, long_effect, Move, Long, Instruction, is_legal, State, read_source, effect_of, moves_of, long_effects, effects_of, reads_unset_register, reads_unset_port, is_set}
use Rattle.tta_hardware.specs.Signals.{Signal as Named, LacksRegister, LacksPort, Watches}
use Rattle.tta_hardware.specs.Fields.{slot_at}
use Rattle.tta_hardware.specs.Stands.{Hardware, IsSettled, HasWords, HasPorts}
use Rattle.tta_hardware.specs.Laws.{HasFetched}
use Rattle.tta_hardware.proofs.Carrying.{is_joined_at}
use Rattle.tta_trap.specs.Tells.{Knows, IsWatched}
use Rattle.tta_trap.proofs.Tests.{or_none, any_range, none_range}
use Rattle.tta_trap.proofs.Moving.{register_told, port_told, no_register, no_port}

-- ---- buses and effects

module _ (m : Machine) (i : Instruction) (legal : is_legal m i ≡ true) (f : Effect → Bool)
    (quiet : (unit index word : ℕ) → f (long_effect unit index word) ≡ false) where
  -- whether a test holds of the move of a bus
  abbrev pub at_bus : ℕ → Bool
  at_bus bus = option_map_or (λ v. f (effect_of v)) (slot_at i bus) false

  over_slots : (slots : List (Option Move)) (bus : ℕ) → ((k : ℕ) → slot_at i (bus + k) ≡ option_and_then (λ o. o) (slice_get slots k))
      → list_any at_bus (range_with_len bus (length slots)) ≡ list_any f (map effect_of (filter_map (λ o. o) slots))
  over_slots [] bus at = refl
  over_slots (o ∷ slots) bus at =
      let e : bus + 0 ≡ bus = omega arith in
      let here : slot_at i bus ≡ o = ap (slot_at i) (sym e) ∙ at 0 in
      ap (λ o. option_map_or (λ v. f (effect_of v)) o false || list_any at_bus (range_with_len (bus + 1) (length slots))) here
      ∙ by o (over_slots slots (bus + 1) (λ k. let z : bus + 1 + k ≡ bus + suc k = omega arith in ap (slot_at i) z ∙ at (suc k)))
    where
      by : (o : Option Move)
          → list_any at_bus (range_with_len (bus + 1) (length slots)) ≡ list_any f (map effect_of (filter_map (λ o. o) slots))
          → (option_map_or (λ v. f (effect_of v)) o false || list_any at_bus (range_with_len (bus + 1) (length slots)))
          ≡ list_any f (map effect_of (filter_map (λ o. o) (o ∷ slots)))
      by None rest = rest
      by (Some v) rest = ap (λ b. f (effect_of v) || b) rest

  no_long : (long : Option Long) → list_any f (long_effects m long) ≡ false
  no_long None = refl
  no_long (Some l) = by (slice_get m.templates l.template) where
    by : (o : Option Template) → list_any f (option_map_or (λ t. long_effect t.imm t.reg l.value ∷ []) o []) ≡ false
    by None = refl
    by (Some t) = ap (λ b. b || false) (quiet t.imm t.reg l.value)

  pub over_buses : list_any at_bus (numbers (length m.buses)) ≡ list_any f (effects_of m i)
  over_buses =
      let size : length i.moves ≡ length m.buses = eqb-true (length i.moves) (length m.buses) (legal_parts m i legal).count in
      ap (λ n. list_any at_bus (range_with_len 0 n)) (sym size)
      ∙ over_slots i.moves 0 (λ k. let z : 0 + k ≡ k = omega arith in ap (slot_at i) z)
      ∙ sym (list_any-append f (map effect_of (moves_of i)) (long_effects m i.long)
      ∙ ap (λ b. list_any f (map effect_of (moves_of i)) || b) (no_long i.long) ∙ or_none (list_any f (map effect_of (moves_of i))))

-- ---- what the circuit tells

module _ (u : Units) (m : Machine) (count : ℕ) (rules : IsMachine m) (h : Hardware) (env : Named → ℕ) (s : State) (i : Instruction)
    (legal : is_legal m i ≡ true) (settled : IsSettled u m h env) (words : HasWords m h.words s) (ports : HasPorts m h.words s)
    (fetched : HasFetched m env i) (knows : Knows m h.words s) (watched : IsWatched u m count h env) where
  -- whether a register is read that has no word
  pub registers_told : list_any (λ bus. is_set (env (Watches (LacksRegister bus)))) (numbers (length m.buses))
      ≡ list_any (reads_unset_register s) (effects_of m i)
  registers_told =
      any_range (λ bus. is_set (env (Watches (LacksRegister bus)))) (at_bus m i legal (reads_unset_register s) (λ unit index word. refl)) 0
      (length m.buses) (λ bus least below. by bus (omega (arith, below)) (slot_at i bus) refl)
      ∙ over_buses m i legal (reads_unset_register s) (λ unit index word. refl)
    where
      by : (bus : ℕ) → bus < length m.buses → (o : Option Move) → slot_at i bus ≡ o
          → is_set (env (Watches (LacksRegister bus))) ≡ option_map_or (λ v. reads_unset_register s (effect_of v)) o false
      by bus below None at = no_register u m count rules h env s i settled words ports fetched knows watched bus below at
      by bus below (Some v) at =
          register_told u m count rules h env s i settled words ports fetched knows watched bus below v at
          (is_joined_at m i legal bus v at)

  -- and whether a result port is, where no register is
  pub ports_told : list_any (reads_unset_register s) (effects_of m i) ≡ false
      → list_any (λ bus. is_set (env (Watches (LacksPort bus)))) (numbers (length m.buses)) ≡ list_any (reads_unset_port s) (effects_of m i)
  ports_told none =
      any_range (λ bus. is_set (env (Watches (LacksPort bus)))) (at_bus m i legal (reads_unset_port s) (λ unit index word. refl)) 0
      (length m.buses) (λ bus least below. by bus (omega (arith, below)) (slot_at i bus) refl)
      ∙ over_buses m i legal (reads_unset_port s) (λ unit index word. refl)
    where
      guarded : (bus : ℕ) (v : Move) → bus < length m.buses → slot_at i bus ≡ Some v
          → has_unset_guard (read_source s) (effect_of v) ≡ false
      guarded bus v below at =
          let fails = none_range (at_bus m i legal (reads_unset_register s) (λ unit index word. refl)) 0 (length m.buses) bus (omega arith)
          (omega (arith, below)) (over_buses m i legal (reads_unset_register s) (λ unit index word. refl) ∙ none) in
          (or_parts (has_unset_guard (read_source s) (effect_of v)) (has_unset (read_source s) is_register (effect_of v))
          (sym (ap (λ o. option_map_or (λ v. reads_unset_register s (effect_of v)) o false) at) ∙ fails)).0

      by : (bus : ℕ) → bus < length m.buses → (o : Option Move) → slot_at i bus ≡ o
          → is_set (env (Watches (LacksPort bus))) ≡ option_map_or (λ v. reads_unset_port s (effect_of v)) o false
      by bus below None at = no_port u m count rules h env s i settled words ports fetched knows watched bus below at
      by bus below (Some v) at =
          port_told u m count rules h env s i settled words ports fetched knows watched bus below v at
          (is_joined_at m i legal bus v at) (guarded bus v below at)
