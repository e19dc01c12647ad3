-- What the moves of a decoded instruction bring and start, and which cannot be read.
use Rattle.std.proofs.Common.{◌≡◌, ℕ, ◌<◌, ◌%◌, ◌==◌, Bool, true, false, ◌||◌, List, [], ◌∷◌, ◌++◌, map, Option, Some, None, refl, sym, ap, ◌∙◌, arith}
use Rattle.std.specs.Prelude.{option_map, option_and_then, option_to_list, slice_get, if◌then◌else◌}
use Rattle.std.specs.Option.{option_map_or, option_or}
use Rattle.std.specs.List.{list_any, filter_map, cons_option, find, AllByRecursion}
use Rattle.std.proofs.lemmas.Bool.{ltb-true}
use Rattle.tta_list.proofs.Tests.{or_swap}
use Rattle.tta_sim.specs.Cited.{Template, Dest, Machine, KeptReg, KeptImm, KeptOperand, KeptRa, Reads, Start, width_of, write_of, first_some, control_of, is_port, has_unset, Move, Long, effect_of}
use Rattle.tta_arch.specs.declared.ends.Dest.TheVariants as dest
use Rattle.tta_sim.specs.declared.decoded.DecodedStart.{DecodedStart}
use Rattle.tta_sim.specs.declared.decoded.DecodedWrite.{DecodedWrite}
use Rattle.tta_sim.specs.declared.decoded.DecodedSource.TheVariants as decoded
use Rattle.tta_sim.specs.declared.lines.Write.{Write}
use Rattle.tta_sim.specs.Places.{number_of, word_at, is_place}
use Rattle.tta_sim.specs.Results.{Results, shown_by}
use Rattle.tta_sim.specs.Moves.{Arrival, reads_of, lacks_register, is_reachable, arrival_of, brought_of}
use Rattle.tta_sim.specs.Starts.{is_operand_of, operand_with, start_by, triggered, is_stopped, acting_in, AreReachable}
use Rattle.tta_sim.specs.Writing.{long_writes, is_long_place, numbered, numbered_one}
use Rattle.tta_sim.specs.Decoded.{reading_of, write_decoded, start_decoded, control_decoded, long_decoded, has_operation}
use Rattle.tta_sim.specs.Lines.{is_unread, write_brought, start_brought, control_brought, operand_in, cannot_start}
use Rattle.tta_sim.proofs.Lining.{filter_map-twice, filter_map-map, map-filter_map, filter_map-same, first-filter_map, first-map, first-same, any-filter_map, unread_same, write_same, start_same, control_same, parts_same}

-- ---- tests of lists

swap_three : (a b c x y z : Bool) → ((a || (b || c)) || (x || (y || z))) ≡ ((a || x) || ((b || y) || (c || z)))
swap_three true b c x y z = refl
swap_three false true c true y z = refl
swap_three false true c false y z = refl
swap_three false false true true y z = refl
swap_three false false true false true z = refl
swap_three false false true false false z = refl
swap_three false false false x y z = refl

pub any_three : {A : Type 0} (p a b c : A → Bool) (xs : List A) → AllByRecursion (λ x. p x ≡ (a x || (b x || c x))) xs
    → list_any p xs ≡ (list_any a xs || (list_any b xs || list_any c xs))
any_three p a b c [] same = refl
any_three p a b c (x ∷ xs) same =
    ap (λ t. t || list_any p xs) same.0 ∙ ap (λ t. (a x || (b x || c x)) || t) (any_three p a b c xs same.1)
    ∙ swap_three (a x) (b x) (c x) (list_any a xs) (list_any b xs) (list_any c xs)

module _ (m : Machine) (back : ℕ) (places : List (Option ℕ)) (r : Results) where
  -- the word of each source, by the places and the results shown
  abbrev reads : Reads
  reads = reads_of places (shown_by r)

  -- whether a move lacks the word of its guard, or acts and lacks that of its source
  abbrev unread : Move → Bool
  unread v = is_unread places (shown_by r) (reading_of v)

  -- moves cannot be read where the word of a register or of a port is lacking
  pub unread_moves : (ms : List Move) → list_any unread ms ≡ (list_any (lacks_register reads) (map effect_of ms) || list_any (has_unset reads is_port) (map effect_of ms))
  unread_moves [] = refl
  unread_moves (v ∷ ms) =
      ap (λ b. b || list_any unread ms) (unread_same places (shown_by r) v) ∙ ap (λ b. (lacks_register reads (effect_of v) || has_unset reads is_port (effect_of v)) || b) (unread_moves ms)
      ∙ or_swap (lacks_register reads (effect_of v)) (has_unset reads is_port (effect_of v)) (list_any (lacks_register reads) (map effect_of ms)) (list_any (has_unset reads is_port) (map effect_of ms))

  -- whether any write of these moves, to a register, an operand port or the return address, cannot be read
  abbrev pub unread_writes : List Move → Bool
  unread_writes ms = list_any (λ w. is_unread places (shown_by r) w.reading) (filter_map (write_decoded m back) ms)

  -- whether any of these moves that goes to the trigger port of a unit cannot be read
  abbrev pub unread_starts : List Move → Bool
  unread_starts ms = list_any (λ s. is_unread places (shown_by r) s.reading) (filter_map (start_decoded m) ms)

  -- whether any of these moves that goes to control's trigger port cannot be read
  abbrev pub unread_controls : List Move → Bool
  unread_controls ms = list_any (λ t. is_unread places (shown_by r) t.reading) (filter_map control_decoded ms)

  parts_all : (ms : List Move) → AllByRecursion (λ v. has_operation m v ≡ true) ms → AllByRecursion (λ v. unread v
      ≡ (option_map_or (λ w. is_unread places (shown_by r) w.reading) (write_decoded m back v) false
      || (option_map_or (λ s. is_unread places (shown_by r) s.reading) (start_decoded m v) false
      || option_map_or (λ t. is_unread places (shown_by r) t.reading) (control_decoded v) false))) ms
  parts_all [] there = tt
  parts_all (v ∷ ms) there = (parts_same places (shown_by r) m back v there.0, parts_all ms there.1)

  -- they cannot be read where some of what they are decoded into cannot
  pub unread_parts : (ms : List Move) → AllByRecursion (λ v. has_operation m v ≡ true) ms → list_any unread ms ≡ (unread_writes ms || (unread_starts ms || unread_controls ms))
  unread_parts ms there =
      any_three unread (λ v. option_map_or (λ w. is_unread places (shown_by r) w.reading) (write_decoded m back v) false)
      (λ v. option_map_or (λ s. is_unread places (shown_by r) s.reading) (start_decoded m v) false)
      (λ v. option_map_or (λ t. is_unread places (shown_by r) t.reading) (control_decoded v) false) ms (parts_all ms there)
      ∙ ap (λ b. b || (list_any (λ v. option_map_or (λ s. is_unread places (shown_by r) s.reading) (start_decoded m v) false) ms
      || list_any (λ v. option_map_or (λ t. is_unread places (shown_by r) t.reading) (control_decoded v) false) ms))
      (sym (any-filter_map (λ w. is_unread places (shown_by r) w.reading) (write_decoded m back) ms))
      ∙ ap (λ b. unread_writes ms || (b || list_any (λ v. option_map_or (λ t. is_unread places (shown_by r) t.reading) (control_decoded v) false) ms))
      (sym (any-filter_map (λ s. is_unread places (shown_by r) s.reading) (start_decoded m) ms))
      ∙ ap (λ b. unread_writes ms || (unread_starts ms || b)) (sym (any-filter_map (λ t. is_unread places (shown_by r) t.reading) control_decoded ms))

  -- ---- what is brought

  writes_each : (ms : List Move) → AllByRecursion (λ v. unread v ≡ false) ms
      → AllByRecursion (λ v. option_and_then (write_brought places (shown_by r)) (write_decoded m back v) ≡ option_map numbered_one (option_and_then (λ a. write_of m back (brought_of a)) (arrival_of reads v))) ms
  writes_each [] could = tt
  writes_each (v ∷ ms) could = (write_same places (shown_by r) m back v could.0, writes_each ms could.1)

  pub writes_in : (ms : List Move) → AllByRecursion (λ v. unread v ≡ false) ms
      → filter_map (write_brought places (shown_by r)) (filter_map (write_decoded m back) ms) ≡ numbered (filter_map (write_of m back) (map brought_of (filter_map (arrival_of reads) ms)))
  writes_in ms could =
      let one : Move → Option Write = λ v. option_map numbered_one (option_and_then (λ a. write_of m back (brought_of a)) (arrival_of reads v)) in
      filter_map-twice (write_brought places (shown_by r)) (write_decoded m back) ms
      ∙ filter_map-same (λ v. option_and_then (write_brought places (shown_by r)) (write_decoded m back v)) one ms (writes_each ms could)
      ∙ sym (map-filter_map numbered_one (λ v. option_and_then (λ a. write_of m back (brought_of a)) (arrival_of reads v)) ms)
      ∙ ap numbered (sym (filter_map-twice (λ a. write_of m back (brought_of a)) (arrival_of reads) ms))
      ∙ ap numbered (sym (filter_map-map (write_of m back) brought_of (filter_map (arrival_of reads) ms)))

  pub long_in : (long : Option Long) → filter_map (write_brought places (shown_by r)) (option_to_list (long_decoded m long)) ≡ numbered (long_writes m long)
  long_in None = refl
  long_in (Some l) = by (slice_get m.templates l.template) where
    by : (o : Option Template) → filter_map (write_brought places (shown_by r)) (option_to_list (option_map (λ t. record { reading = record { guard = None; src = decoded.Word l.value }; place = number_of (KeptImm t.imm t.reg); narrow = false }) o))
        ≡ numbered (option_map_or (λ t. (KeptImm t.imm t.reg, l.value) ∷ []) o [])
    by None = refl
    by (Some t) = refl

  pub long_unread : (long : Option Long) → list_any {X = DecodedWrite} (λ w. is_unread places (shown_by r) w.reading) (option_to_list (long_decoded m long)) ≡ false
  long_unread None = refl
  long_unread (Some l) = by (slice_get m.templates l.template) where
    by : (o : Option Template) → list_any {X = DecodedWrite} (λ w. is_unread places (shown_by r) w.reading) (option_to_list (option_map (λ t. record { reading = record { guard = None; src = decoded.Word l.value }; place = number_of (KeptImm t.imm t.reg); narrow = false }) o)) ≡ false
    by None = refl
    by (Some t) = refl

  pub starts_in : (operand : ℕ → Option ℕ) (ms : List Move) → filter_map (start_brought places (shown_by r) operand) (filter_map (start_decoded m) ms) ≡ filter_map (start_by m operand) (filter_map (arrival_of reads) ms)
  starts_in operand ms =
      filter_map-twice (start_brought places (shown_by r) operand) (start_decoded m) ms
      ∙ filter_map-same (λ v. option_and_then (start_brought places (shown_by r) operand) (start_decoded m v)) (λ v. option_and_then (start_by m operand) (arrival_of reads v)) ms (each ms)
      ∙ sym (filter_map-twice (start_by m operand) (arrival_of reads) ms)
    where
      each : (ms : List Move) → AllByRecursion (λ v. option_and_then (start_brought places (shown_by r) operand) (start_decoded m v) ≡ option_and_then (start_by m operand) (arrival_of reads v)) ms
      each [] = tt
      each (v ∷ ms) = (start_same places (shown_by r) m operand v, each ms)

  pub controls_in : (ms : List Move) → first_some (control_brought places (shown_by r)) (filter_map control_decoded ms) ≡ acting_in (filter_map (arrival_of reads) ms)
  controls_in ms =
      first-filter_map (control_brought places (shown_by r)) control_decoded ms
      ∙ first-same (λ v. option_and_then (control_brought places (shown_by r)) (control_decoded v)) (λ v. option_and_then (λ a. control_of (brought_of a)) (arrival_of reads v)) ms (control_same places (shown_by r))
      ∙ sym (first-filter_map (λ a. control_of (brought_of a)) (arrival_of reads) ms)
      ∙ sym (first-map control_of brought_of (filter_map (arrival_of reads) ms))

  -- operations that cannot start, or cannot be read
  pub cannot_all : (operand : ℕ → Option ℕ) (starts : List DecodedStart) → list_any (cannot_start places r operand) starts
      ≡ (list_any (λ s. is_unread places (shown_by r) s.reading) starts || list_any (is_stopped r) (filter_map (start_brought places (shown_by r) operand) starts))
  cannot_all operand [] = refl
  cannot_all operand (s ∷ starts) =
      let here : Option Start = start_brought places (shown_by r) operand s in
      let more = filter_map (start_brought places (shown_by r) operand) starts in
      ap (λ b. (is_unread places (shown_by r) s.reading || list_any (is_stopped r) (option_to_list here)) || b) (cannot_all operand starts)
      ∙ or_swap (is_unread places (shown_by r) s.reading) (list_any (is_stopped r) (option_to_list here)) (list_any (λ s. is_unread places (shown_by r) s.reading) starts) (list_any (is_stopped r) more)
      ∙ ap (λ b. (is_unread places (shown_by r) s.reading || list_any (λ s. is_unread places (shown_by r) s.reading) starts) || b) (joined here)
    where
      joined : (o : Option Start) → (list_any (is_stopped r) (option_to_list o) || list_any (is_stopped r) (filter_map (start_brought places (shown_by r) operand) starts))
          ≡ list_any (is_stopped r) (cons_option o (filter_map (start_brought places (shown_by r) operand) starts))
      joined None = refl
      joined (Some t) = by (is_stopped r t) where
        by : (b : Bool) → ((b || false) || list_any (is_stopped r) (filter_map (start_brought places (shown_by r) operand) starts)) ≡ (b || list_any (is_stopped r) (filter_map (start_brought places (shown_by r) operand) starts))
        by true = refl
        by false = refl

-- ---- operands

module _ (m : Machine) (back : ℕ) (places : List (Option ℕ)) (unit : ℕ) where
  -- where the operand port of the unit stands in the row of places
  abbrev number : ℕ
  number = number_of (KeptOperand unit)

  -- the word that the operand port of the unit has kept from earlier cycles, if any was written
  abbrev kept : Option ℕ
  kept = word_at places (KeptOperand unit)

  -- the operand where the first write is to the port, or where it is not
  abbrev pick : Bool → Write → Option Write → Option ℕ
  pick here w rest = option_or (option_map (λ w. w.word) (if here then Some w else rest)) kept

  long_operand : (long : Option Long) → is_long_place m long ≡ true → operand_in places (numbered (long_writes m long)) unit ≡ kept
  long_operand None there = refl
  long_operand (Some l) there = by (slice_get m.templates l.template) there where
    by : (o : Option Template) → option_map_or (λ t. is_place (KeptImm t.imm t.reg)) o true ≡ true
        → operand_in places (numbered (option_map_or (λ t. (KeptImm t.imm t.reg, l.value) ∷ []) o [])) unit ≡ kept
    by None there = refl
    by (Some t) there =
        let apart : (number_of (KeptImm t.imm t.reg) == number) ≡ false = grind (arith, there) in
        ap (λ b. pick b (numbered_one (KeptImm t.imm t.reg, l.value)) None) apart

  -- the operand that the writes leave is the one that the arrivals leave
  pub operand_same : (units : ℕ) → unit < 32 → (arrivals : List Arrival) → AreReachable units arrivals → (long : Option Long) → is_long_place m long ≡ true
      → operand_in places (numbered (filter_map (write_of m back) (map brought_of arrivals) ++ long_writes m long)) unit ≡ operand_with places arrivals unit
  operand_same units few [] there long placed = long_operand long placed
  operand_same units few (a ∷ arrivals) there long placed = by a.dst there.0 (operand_same units few arrivals there.1 long placed) where
    tail : List Write
    tail = numbered (filter_map (write_of m back) (map brought_of arrivals) ++ long_writes m long)

    others : Option Write
    others = find (λ w. w.place == number) tail

    shift : (u : ℕ) → (number_of (KeptOperand u) == number) ≡ (u == unit)
    shift u = grind arith

    by : (d : Dest) → is_reachable units d ≡ true → operand_in places tail unit ≡ operand_with places arrivals unit
        → operand_in places (numbered (filter_map (write_of m back) (map brought_of (record { dst = d; word = a.word } ∷ arrivals)) ++ long_writes m long)) unit
        ≡ operand_with places (record { dst = d; word = a.word } ∷ arrivals) unit
    by (dest.Reg file index) there rest =
        let apart : (number_of (KeptReg file index) == number) ≡ false = grind (arith, there) in
        ap (λ b. pick b (record { place = number_of (KeptReg file index); word = if width_of m file == 1 then a.word % 2 else a.word }) others) apart ∙ rest
    by (dest.Operand u) there rest =
        let w : Write = record { place = number_of (KeptOperand u); word = a.word } in
        ap (λ b. pick b w others) (shift u)
        ∙ elim (u == unit) as (λ b. pick b w others
        ≡ option_or (option_map (λ a. a.word) (if b then Some (record { dst = dest.Operand u; word = a.word }) else find (λ a. is_operand_of unit a.dst) arrivals)) kept) [
          | true ↦ refl
          | false ↦ rest
        ]
    by (dest.Trigger u op) there rest = rest
    by dest.Jump there rest = rest
    by dest.Call there rest =
        let apart : (number_of KeptRa == number) ≡ false = grind (arith, few) in
        ap (λ b. pick b (record { place = number_of KeptRa; word = back }) others) apart ∙ rest
    by dest.Halt there rest = rest

-- operations take the same operands
pub starts_alike : (m : Machine) (f g : ℕ → Option ℕ) (units : ℕ) → ((unit : ℕ) → unit < units → f unit ≡ g unit) → (arrivals : List Arrival) → AreReachable units arrivals
    → filter_map (start_by m f) arrivals ≡ filter_map (start_by m g) arrivals
starts_alike m f g units same arrivals there = filter_map-same (start_by m f) (start_by m g) arrivals (each arrivals there) where
  one : (a : Arrival) → is_reachable units a.dst ≡ true → start_by m f a ≡ start_by m g a
  one a there = by a.dst there where
    by : (d : Dest) → is_reachable units d ≡ true → start_by m f (record { dst = d; word = a.word }) ≡ start_by m g (record { dst = d; word = a.word })
    by (dest.Reg file index) there = refl
    by (dest.Operand unit) there = refl
    by (dest.Trigger unit op) there = ap (λ o. triggered m (λ n. o) unit op a.word) (same unit (ltb-true unit units there))
    by dest.Jump there = refl
    by dest.Call there = refl
    by dest.Halt there = refl

  each : (arrivals : List Arrival) → AreReachable units arrivals → AllByRecursion (λ a. start_by m f a ≡ start_by m g a) arrivals
  each [] there = tt
  each (a ∷ arrivals) there = (one a there.0, each arrivals there.1)
