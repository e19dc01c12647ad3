-- What all buses bring together.
use Rattle.std.proofs.Common.{◌≡◌, ℕ, zero, suc, ◌+◌, ◌<◌, Bool, true, false, ◌&&◌, List, [], ◌∷◌, ◌++◌, length, map, slice_get, Option, Some, None, refl, sym, ap, ◌∙◌, subst, arith}
use Rattle.std.specs.Prelude.{is_none, if◌then◌else◌, option_map, option_and_then}
use Rattle.std.specs.Option.{option_map_or}
use Rattle.std.specs.List.{list_any, filter_map, cons_option, range_with_len}
use Rattle.std.proofs.lemmas.Option.{none-some}
use Rattle.std.proofs.lemmas.Bool.{and_parts, or_parts, false≢true, eqb-true}
use Rattle.tta_hardware.specs.Cited.{Units, Source, Machine, joins, all_slots, Reads, Effect, is_register, is_port, is_active, bring, target_of, has_unset_guard, has_unset, Move, Instruction, ends_of, is_legal, State, read_source, effect_of, long_effects, reads_unset_register, reads_unset_port, is_set}
use Rattle.tta_arch.specs.declared.ends.Source.TheVariants as source
use Rattle.tta_code.proofs.LegalParts.{legal_parts}
use Rattle.tta_hardware.specs.Signals.{Signal as Named, Word, Acts}
use Rattle.tta_hardware.specs.Fields.{slot_at}
use Rattle.tta_hardware.specs.Stands.{Hardware}
use Rattle.tta_hardware.specs.Laws.{carried, Meet, BusesCarry}
use Rattle.tta_hardware.proofs.Bringing.{buses_bring}

-- ---- slots by their buses

-- a slot's move is joined
joined_at : (m : Machine) (slots : List (Option Move)) (bus k j : ℕ) (v : Move) → bus + k ≡ j
    → all_slots (λ bus o. option_map_or (λ e. joins m bus e.src e.dst e.guard) o true) bus (map (option_map ends_of) slots) ≡ true
    → option_and_then (λ o. o) (slice_get slots k) ≡ Some v → joins m j v.src v.dst v.guard ≡ true
joined_at m [] bus k j v e all at = absurd (none-some v at)
joined_at m (o ∷ slots) bus zero j v e all at =
    let parts = and_parts (option_map_or (λ x. joins m bus x.src x.dst x.guard) (option_map ends_of o) true)
    (all_slots (λ bus o. option_map_or (λ e. joins m bus e.src e.dst e.guard) o true) (bus + 1) (map (option_map ends_of) slots)) all in
    let same : bus ≡ j = omega (arith, e) in
    subst (λ (n : ℕ). joins m n v.src v.dst v.guard ≡ true) same
    (subst (λ (q : Option Move). option_map_or (λ x. joins m bus x.src x.dst x.guard) (option_map ends_of q) true ≡ true) at parts.0)
joined_at m (o ∷ slots) bus (suc k) j v e all at =
    let parts = and_parts (option_map_or (λ x. joins m bus x.src x.dst x.guard) (option_map ends_of o) true)
    (all_slots (λ bus o. option_map_or (λ e. joins m bus e.src e.dst e.guard) o true) (bus + 1) (map (option_map ends_of) slots)) all in
    joined_at m slots (bus + 1) k j v (omega (arith, e)) parts.1 at

-- each move of a legal instruction is joined by its bus
pub is_joined_at : (m : Machine) (i : Instruction) → is_legal m i ≡ true → (bus : ℕ) (v : Move) → slot_at i bus ≡ Some v
    → joins m bus v.src v.dst v.guard ≡ true
is_joined_at m i legal bus v at = joined_at m i.moves 0 bus bus v (omega arith) (legal_parts m i legal).joined at

-- ---- one move

-- a move brings its word where it acts, if it lacks none
pub brings : (reads : Reads) (e : Effect) (acts : Bool) (word : ℕ) → acts ≡ is_active reads e → ((w : ℕ) → reads e.src ≡ Some w → word ≡ w)
    → has_unset reads is_register e ≡ false → has_unset reads is_port e ≡ false → ((w : ℕ) → e.src ≡ source.Value w → reads e.src ≡ Some w)
    → bring reads e ≡ (if acts then Some (e.target, word) else None)
brings reads e acts word is has register port value = by (is_active reads e) refl (reads e.src) refl e.src refl where
  found : (w : ℕ) → reads e.src ≡ Some w → is_active reads e ≡ true → bring reads e ≡ Some (e.target, word)
  found w at on =
      ap (λ b. option_map_or (λ word. Some (e.target, word)) (if b then reads e.src else None) None) on
      ∙ ap (λ o. option_map_or (λ word. Some (e.target, word)) o None) at ∙ ap (λ n. Some (e.target, n)) (sym (has w at))

  lacks : (kind : Source → Bool) → has_unset reads kind e ≡ false → is_active reads e ≡ true → kind e.src ≡ true → reads e.src ≡ None
      → true ≡ false
  lacks kind unset on is_kind at =
      sym (ap (λ b. b && kind e.src && is_none (reads e.src)) on ∙ ap (λ b. true && b && is_none (reads e.src)) is_kind ∙ ap is_none at)
      ∙ unset

  none : (src : Source) → e.src ≡ src → is_active reads e ≡ true → reads e.src ≡ None → bring reads e ≡ Some (e.target, word)
  none (source.Reg f i) src on at = absurd (false≢true (sym (lacks is_register register on (ap is_register src) at)))
  none (source.Imm f i) src on at = absurd (false≢true (sym (lacks is_register register on (ap is_register src) at)))
  none (source.Shown f) src on at = absurd (false≢true (sym (lacks is_port port on (ap is_port src) at)))
  none source.Ra src on at = absurd (false≢true (sym (lacks is_register register on (ap is_register src) at)))
  none (source.Value w) src on at = absurd (none-some w (sym at ∙ value w src))

  by : (b : Bool) → is_active reads e ≡ b → (o : Option ℕ) → reads e.src ≡ o → (src : Source) → e.src ≡ src
      → bring reads e ≡ (if acts then Some (e.target, word) else None)
  by true on (Some w) at src from = found w at on ∙ ap (λ b. if b then Some (e.target, word) else None) (sym (is ∙ on))
  by true on None at src from = none src from on at ∙ ap (λ b. if b then Some (e.target, word) else None) (sym (is ∙ on))
  by false on o at src from =
      ap (λ b. option_map_or (λ word. Some (e.target, word)) (if b then reads e.src else None) None) on
      ∙ ap (λ b. if b then Some (e.target, word) else None) (sym (is ∙ on))

-- ---- all moves

module _ (u : Units) (m : Machine) (h : Hardware) (env : Named → ℕ) (s : State) (i : Instruction) (meet : Meet u m h env s i) where
  one : (bus : ℕ) (v : Move) → bus < length m.buses → slot_at i bus ≡ Some v → reads_unset_register s (effect_of v) ≡ false
      → reads_unset_port s (effect_of v) ≡ false
      → bring (read_source s) (effect_of v) ≡ (if is_set (env (Acts bus)) then Some (target_of v.dst, env (Word bus)) else None)
  one bus v there at register port =
      let alike = buses_bring u m h env s i bus v meet.rules meet.settled meet.words meet.ports meet.fetched there at
      (is_joined_at m i meet.legal bus v at) in
      let parts = or_parts (has_unset_guard (read_source s) (effect_of v)) (has_unset (read_source s) is_register (effect_of v)) register in
      brings (read_source s) (effect_of v) (is_set (env (Acts bus))) (env (Word bus)) (alike.acts parts.0) alike.word parts.1 port
      (λ w src. ap (read_source s) src)

  all : (slots : List (Option Move)) (bus : ℕ) → bus + length slots ≡ length m.buses
      → ((k : ℕ) → slot_at i (bus + k) ≡ option_and_then (λ o. o) (slice_get slots k))
      → (more : List Effect) → list_any (reads_unset_register s) (map effect_of (filter_map (λ o. o) slots) ++ more) ≡ false
      → list_any (reads_unset_port s) (map effect_of (filter_map (λ o. o) slots) ++ more) ≡ false
      → filter_map (bring (read_source s)) (map effect_of (filter_map (λ o. o) slots))
      ≡ filter_map (carried env i) (range_with_len bus (length slots))
  all [] bus size at more register port = refl
  all (None ∷ slots) bus size at more register port =
      let e : bus + 0 ≡ bus = omega arith in
      let here : slot_at i bus ≡ None = ap (slot_at i) (sym e) ∙ at 0 in
      let rest = all slots (bus + 1) (omega (arith, size)) (λ k. let z : bus + 1 + k ≡ bus + suc k = omega arith in ap (slot_at i) z
      ∙ at (suc k)) more register port in
      rest ∙ ap (λ o. cons_option
      (option_and_then (λ v. if is_set (env (Acts bus)) then Some (target_of v.dst, env (Word bus)) else None) o)
      (filter_map (carried env i) (range_with_len (bus + 1) (length slots)))) (sym here)
  all (Some v ∷ slots) bus size at more register port =
      let e : bus + 0 ≡ bus = omega arith in
      let here : slot_at i bus ≡ Some v = ap (slot_at i) (sym e) ∙ at 0 in
      let first =
      or_parts (reads_unset_register s (effect_of v))
      (list_any (reads_unset_register s) (map effect_of (filter_map (λ o. o) slots) ++ more)) register in
      let second =
      or_parts (reads_unset_port s (effect_of v)) (list_any (reads_unset_port s) (map effect_of (filter_map (λ o. o) slots) ++ more))
      port in
      let rest = all slots (bus + 1) (omega (arith, size)) (λ k. let z : bus + 1 + k ≡ bus + suc k = omega arith in ap (slot_at i) z
      ∙ at (suc k)) more first.1 second.1 in
      ap (λ o. cons_option o (filter_map (bring (read_source s)) (map effect_of (filter_map (λ o. o) slots))))
      (one bus v (omega (arith, size)) here first.0 second.0)
      ∙ ap (cons_option (if is_set (env (Acts bus)) then Some (target_of v.dst, env (Word bus)) else None)) rest
      ∙ ap (λ o. cons_option (option_and_then (λ v. if is_set (env (Acts bus)) then Some (target_of v.dst, env (Word bus)) else None) o)
      (filter_map (carried env i) (range_with_len (bus + 1) (length slots)))) (sym here)

pub buses_carry : BusesCarry
buses_carry u m h env s i meet =
    let size : length i.moves ≡ length m.buses = eqb-true (length i.moves) (length m.buses) (legal_parts m i meet.legal).count in
    all u m h env s i meet i.moves 0 (omega (arith, size)) (λ k. let z : 0 + k ≡ k = omega arith in ap (slot_at i) z)
    (long_effects m i.long) meet.lacks.0 meet.lacks.1
    ∙ ap (λ n. filter_map (carried env i) (range_with_len 0 n)) size
