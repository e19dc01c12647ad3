-- The instruction of a cycle's items is legal where the machine can carry out these items in a cycle: an address is a
-- smaller word than that for which the field was chosen.
use Rattle.std.proofs.Common.{◌≡◌, inl, inr, ℕ, zero, suc, ◌+◌, ◌-◌, ◌*◌, ◌/◌, ◌^◌, ◌<◌, ◌≤◌, Bool, true, false, List, [], ◌∷◌, Option, Some, None, refl, sym, ap, subst, ◌∙◌, arith, length, map}
use Rattle.std.specs.Prelude.{⊤, slice_get, slice_index, ◌&&◌, ◌||◌, ◌==◌, nat_lt, if◌then◌else◌, option_map, is_some}
use Rattle.std.specs.Option.{option_map_or}
use Rattle.std.specs.List.{list_all, range_with_len}
use Rattle.std.proofs.lemmas.Bool.{cases_lt, and_parts, and_from}
use Rattle.std.proofs.lemmas.Nat.{pow_pos, pow-add, div_below, le-div}
use Rattle.std.proofs.Math.Nat.{div-mul-le_self, mul-le-mul_right}
use Rattle.std.proofs.lemmas.Bool.Decides.{nat_tests}
use Rattle.tta_link.specs.Cited.{GuardRef, Dest, Machine, IsMachine, are_different, joins, is_source_on, is_dest_on, has_guard, Ends, Slots, ends_of, are_apart, can_move, keeps_taken, is_joined, has_reads, has_writes, all_slots, first_some, or_else, Long, Instruction, is_legal, taken, is_instruction, is_long, Item, ItemSource, Port, Address, Slot, Bus, Template, PlacedItem, linked, carried, carries, clash, fills, fits_cycle, slots_of, taken_of, taken_by, ends_on}
use Rattle.tta_arch.specs.declared.ends.Source.TheVariants as source
use Rattle.tta_arch.specs.declared.parts.Template.{Template as Field}
use Rattle.tta_arch.proofs.Joined.{is_joined_at}
use Rattle.tta_code.specs.Legal.{slots_of as slots_in, ends_of as ends_in}
use Rattle.tta_moves.specs.declared.items.Item.TheVariants as item
use Rattle.tta_link.specs.Linked.{move_on, long_on, instruction_of}
use Rattle.tta_link.specs.Blocks.{source_within, is_within}
use Rattle.tta_link.specs.Put.{is_word_in}
use Rattle.std.proofs.lemmas.List.{length-map}
use Rattle.tta_link.proofs.Shapes.{shape, shapes, blank_linked, reads_shapes, writes_shapes, apart_shapes, taken_shapes}
use Rattle.tta_moves.proofs.Addresses.{address_held as smaller_word}
use Rattle.tta_moves.proofs.OnSlots.{ends_at, taken_at}

-- ---- a smaller word

zero_high : (w p : ℕ) → 0 < p → w < p → w / p ≡ 0
zero_high w p pos lt = let h = div_below w p 1 pos (omega arith) in omega arith

-- a field that holds a word below 2 ^ 16 holds every smaller one
smaller_held : (signed : Bool) (short top w : ℕ) → 1 ≤ short → short ≤ 32 → top < 65536 → w ≤ top
    → (if signed then top / 2 ^ (short - 1) == 0 || top / 2 ^ (short - 1) == 2 ^ (33 - short) - 1 else nat_lt top (2 ^ short)) ≡ true
    → (if signed then w / 2 ^ (short - 1) == 0 || w / 2 ^ (short - 1) == 2 ^ (33 - short) - 1 else nat_lt w (2 ^ short)) ≡ true
smaller_held false short top w least most few le h = let t : nat_lt top (2 ^ short) ≡ true = h in grind (arith, nat_tests)
smaller_held true short top w least most few le h = elim (cases_lt top p) [
  | inl low ↦ rw (zero_high w p pos (omega arith)) refl
  | inr high ↦
      let some : 1 ≤ top / p = le-div 1 top p pos (omega arith) in
      let full : top / p ≡ 2 ^ (33 - short) - 1 = let t : (top / p == 0 || top / p == 2 ^ (33 - short) - 1) ≡ true = h in grind (arith, nat_tests) in
      let twice : 2 ^ (1 + (32 - short)) ≡ 2 * 2 ^ (32 - short) = pow-add 2 1 (32 - short) in
      let same : 1 + (32 - short) ≡ 33 - short = omega arith in
      let twice' : 2 ^ (33 - short) ≡ 2 * 2 ^ (32 - short) = subst (λ n. 2 ^ n ≡ 2 * 2 ^ (32 - short)) same twice in
      let half : 1 ≤ 2 ^ (32 - short) = pow_pos (32 - short) in
      let many : 2 ^ (32 - short) ≤ top / p = omega arith in
      let below : 2 ^ (32 - short) * p ≤ top = mul_below (2 ^ (32 - short)) top p many in
      let product : 2 ^ (32 - short + (short - 1)) ≡ 2 ^ (32 - short) * p = pow-add 2 (32 - short) (short - 1) in
      let sum : 32 - short + (short - 1) ≡ 31 = omega arith in
      let large : 2 ^ 31 ≡ 2 ^ (32 - short) * p = subst (λ n. 2 ^ n ≡ 2 ^ (32 - short) * p) sum product in
      absurd (omega arith)
] where
  p : ℕ
  p = 2 ^ (short - 1)

  pos : 0 < 2 ^ (short - 1)
  pos = pow_pos (short - 1)

  mul_below : (x y k : ℕ) → x ≤ y / k → x * k ≤ y
  mul_below x y k h = let a : x * k ≤ y / k * k = mul-le-mul_right k h in let b = div-mul-le_self y k in omega arith

-- ---- one move

-- the blocks have addresses of the machine
pub record AreLow (m : Machine) (blocks : ℕ) (addr : List ℕ) : Type 0 where
  pub low : (k : ℕ) → k < blocks → slice_index addr k < 2 ^ m.control.address

linked_joins : (m : Machine) → IsMachine m → (blocks : ℕ) (addr : List ℕ) → AreLow m blocks addr → (bus : ℕ) (s : ItemSource) (dst : Dest) (guard : Option GuardRef)
    → source_within blocks s ≡ true → joins m bus (carried m s) dst guard ≡ true → joins m bus (linked addr s) dst guard ≡ true
linked_joins m rules blocks addr low bus (Port s) dst guard w h = h
linked_joins m rules blocks addr low bus (Address k) dst guard w h =
    let a = and_parts (is_source_on m bus (source.Value (2 ^ m.control.address - 1)) && is_dest_on m bus dst) (has_guard m bus guard) h in
    let b = and_parts (is_source_on m bus (source.Value (2 ^ m.control.address - 1))) (is_dest_on m bus dst) a.0 in
    let lt : k < blocks = grind (arith, nat_tests) in
    let src = smaller_word m rules bus (slice_index addr k) (low.low k lt) b.0 in
    rw (src, b.1, a.1) refl

-- ---- the moves of a cycle, before and after the addresses are put in

-- a move before and after: it differs in a word at most, and is joined after where it was before
abbrev Alike : Machine → (bus : ℕ) → Option Ends → Option Ends → Type 0
Alike m bus None None = ⊤
Alike m bus None (Some w) = ⊥
Alike m bus (Some v) None = ⊥
Alike m bus (Some v) (Some w) = (shape v ≡ shape w) × (joins m bus v.src v.dst v.guard ≡ true → joins m bus w.src w.dst w.guard ≡ true)

same_shape : (m : Machine) (bus : ℕ) (o q : Option Ends) → Alike m bus o q → option_map shape o ≡ option_map shape q
same_shape m bus None None a = refl
same_shape m bus None (Some w) a = absurd a
same_shape m bus (Some v) None a = absurd a
same_shape m bus (Some v) (Some w) a = ap Some a.0

same_joined : (m : Machine) (bus : ℕ) (o q : Option Ends) → Alike m bus o q → is_joined_at m bus o ≡ true → is_joined_at m bus q ≡ true
same_joined m bus None None a h = refl
same_joined m bus None (Some w) a h = absurd a
same_joined m bus (Some v) None a h = absurd a
same_joined m bus (Some v) (Some w) a h = a.1 h

abbrev buses_of : Machine → Long → ℕ
buses_of m l = option_map_or (λ t. t.buses) (slice_get m.templates l.template) 0

abbrev has_template : Machine → Long → Bool
has_template m l = is_some (slice_get m.templates l.template)

map_twice : {A B : Type 0} (f : A → B) (g : ℕ → A) (a n : ℕ) → map f (map g (range_with_len a n)) ≡ map (λ k. f (g k)) (range_with_len a n)
map_twice f g a zero = refl
map_twice f g a (suc n) = ap (λ l. f (g a) ∷ l) (map_twice f g (a + 1) n)

pub length_range : (a n : ℕ) → length (range_with_len a n) ≡ n
length_range a zero = refl
length_range a (suc n) = ap suc (length_range (a + 1) n)

module _ (m : Machine) (rules : IsMachine m) (blocks : ℕ) (addr : List ℕ) (low : AreLow m blocks addr) where
  abbrev was : List PlacedItem → ℕ → Option Ends
  was xs bus = first_some (ends_on m bus) xs

  abbrev is : List PlacedItem → ℕ → Option Ends
  is xs bus = option_map ends_in (first_some (λ x. move_on addr bus x.slot x.item) xs)

  alike_at : (xs : List PlacedItem) (bus : ℕ) → list_all (λ (x : PlacedItem). is_within blocks x.item) xs ≡ true → Alike m bus (was xs bus) (is xs bus)
  alike_at [] bus all = tt
  alike_at (x ∷ xs) bus all =
      let two = and_parts (is_within blocks x.item) (list_all (λ (y : PlacedItem). is_within blocks y.item) xs) all in
      on x.slot x.item two.0 (alike_at xs bus two.1) where
        on : (s : Slot) (i : Item) → is_within blocks i ≡ true → Alike m bus (was xs bus) (is xs bus)
            → Alike m bus (or_else (ends_at m bus s i) (was xs bus)) (option_map ends_in (or_else (move_on addr bus s i) (first_some (λ (y : PlacedItem). move_on addr bus y.slot y.item) xs)))
        on (Bus b) (item.Move guard src dst) w ih = by (b == bus) where
          by : (t : Bool) → Alike m bus (or_else (if t then Some (record { guard = guard; src = carried m src; dst = dst }) else None) (was xs bus))
              (option_map ends_in (or_else (if t then Some (record { guard = guard; src = linked addr src; dst = dst }) else None) (first_some (λ (y : PlacedItem). move_on addr bus y.slot y.item) xs)))
          by true = (rw (blank_linked m addr src) refl, linked_joins m rules blocks addr low bus src dst guard w)
          by false = ih
        on (Bus b) (item.Long unit index value) w ih = ih
        on (Template t) (item.Move guard src dst) w ih = ih
        on (Template t) (item.Long unit index value) w ih = ih

  -- the same moves in all slots
  shapes_alike : (xs : List PlacedItem) → list_all (λ (x : PlacedItem). is_within blocks x.item) xs ≡ true → (a n : ℕ)
      → shapes (map (was xs) (range_with_len a n)) ≡ shapes (map (is xs) (range_with_len a n))
  shapes_alike xs all a zero = refl
  shapes_alike xs all a (suc n) = rw (same_shape m a (was xs a) (is xs a) (alike_at xs a all), shapes_alike xs all (a + 1) n) refl

  joined_alike : (xs : List PlacedItem) → list_all (λ (x : PlacedItem). is_within blocks x.item) xs ≡ true → (a n : ℕ)
      → all_slots (is_joined_at m) a (map (was xs) (range_with_len a n)) ≡ true → all_slots (is_joined_at m) a (map (is xs) (range_with_len a n)) ≡ true
  joined_alike xs all a zero h = refl
  joined_alike xs all a (suc n) h =
      let two = and_parts (is_joined_at m a (was xs a)) (all_slots (is_joined_at m) (a + 1) (map (was xs) (range_with_len (a + 1) n))) h in
      rw (same_joined m a (was xs a) (is xs a) (alike_at xs a all) two.0) (joined_alike xs all (a + 1) n two.1)

  -- the buses that the template takes
  taken_alike : (xs : List PlacedItem) → list_all (λ (x : PlacedItem). carries m x.slot x.item) xs ≡ true
      → option_map_or (buses_of m) (first_some (λ x. long_on addr x.slot x.item) xs) 0 ≡ taken_of m xs
  taken_alike [] all = refl
  taken_alike (x ∷ xs) all =
      let two = and_parts (carries m x.slot x.item) (list_all (λ (y : PlacedItem). carries m y.slot y.item) xs) all in
      on x.slot x.item two.0 (taken_alike xs two.1) where
        on : (s : Slot) (i : Item) → carries m s i ≡ true → option_map_or (buses_of m) (first_some (λ y. long_on addr y.slot y.item) xs) 0 ≡ taken_of m xs
            → option_map_or (buses_of m) (or_else (long_on addr s i) (first_some (λ y. long_on addr y.slot y.item) xs)) 0 ≡ option_map_or (λ b. b) (or_else (taken_at m s) (first_some (taken_by m) xs)) 0
        on (Bus b) (item.Move guard src dst) c ih = ih
        on (Bus b) (item.Long unit index value) c ih = absurd cc
        on (Template t) (item.Move guard src dst) c ih = absurd cc
        on (Template t) (item.Long unit index value) c ih = by (slice_get m.templates t) c where
          by : (o : Option Field) → option_map_or (fills unit index) o false ≡ true
              → option_map_or (λ (f : Field). f.buses) o 0 ≡ option_map_or (λ b. b) (or_else (option_map_or (λ (q : Field). Some q.buses) o None) (first_some (taken_by m) xs)) 0
          by None c = absurd cc
          by (Some f) c = refl

  -- the template is one of the machine's
  long_there : (xs : List PlacedItem) → list_all (λ (x : PlacedItem). carries m x.slot x.item) xs ≡ true
      → option_map_or (has_template m) (first_some (λ x. long_on addr x.slot x.item) xs) true ≡ true
  long_there [] all = refl
  long_there (x ∷ xs) all =
      let two = and_parts (carries m x.slot x.item) (list_all (λ (y : PlacedItem). carries m y.slot y.item) xs) all in
      on x.slot x.item two.0 (long_there xs two.1) where
        on : (s : Slot) (i : Item) → carries m s i ≡ true → option_map_or (has_template m) (first_some (λ y. long_on addr y.slot y.item) xs) true ≡ true
            → option_map_or (has_template m) (or_else (long_on addr s i) (first_some (λ y. long_on addr y.slot y.item) xs)) true ≡ true
        on (Bus b) (item.Move guard src dst) c ih = ih
        on (Bus b) (item.Long unit index value) c ih = absurd cc
        on (Template t) (item.Move guard src dst) c ih = absurd cc
        on (Template t) (item.Long unit index value) c ih = by (slice_get m.templates t) c where
          by : (o : Option Field) → option_map_or (fills unit index) o false ≡ true → is_some o ≡ true
          by None c = absurd cc
          by (Some f) c = refl

  long_is : (o : Option Long) → option_map_or (has_template m) o true ≡ true → option_map_or (λ l. nat_lt l.value (2 ^ 32)) o true ≡ true → option_map_or (is_long m) o true ≡ true
  long_is None a b = refl
  long_is (Some l) a b = rw (a, b) refl

  -- the instruction of a cycle's items is legal
  pub legal_cycle : (xs : List PlacedItem) → fits_cycle m xs ≡ true → list_all (λ (x : PlacedItem). is_within blocks x.item) xs ≡ true
      → is_word_in (instruction_of m addr xs) ≡ true → is_legal m (instruction_of m addr xs) ≡ true
  unfolding fits_cycle is_legal can_move
  legal_cycle xs fits all word =
      let i : Instruction = instruction_of m addr xs in
      let old : Slots = slots_of m xs in
      let a = and_parts (list_all (λ (x : PlacedItem). carries m x.slot x.item) xs && are_different clash (map (λ (x : PlacedItem). x.slot) xs)) (can_move m (taken_of m xs) old) fits in
      let each = (and_parts (list_all (λ (x : PlacedItem). carries m x.slot x.item) xs) (are_different clash (map (λ (x : PlacedItem). x.slot) xs)) a.0).0 in
      let p5 = and_parts (keeps_taken (taken_of m xs) old && is_joined m old && has_reads m old && has_writes m old) (are_apart (ends_of old)) a.1 in
      let p4 = and_parts (keeps_taken (taken_of m xs) old && is_joined m old && has_reads m old) (has_writes m old) p5.0 in
      let p3 = and_parts (keeps_taken (taken_of m xs) old && is_joined m old) (has_reads m old) p4.0 in
      let p2 = and_parts (keeps_taken (taken_of m xs) old) (is_joined m old) p3.0 in
      let new : slots_in i ≡ map (is xs) (range_with_len 0 (length m.buses)) = map_twice (option_map ends_in) (λ bus. first_some (λ (x : PlacedItem). move_on addr bus x.slot x.item) xs) 0 (length m.buses) in
      let same : shapes old ≡ shapes (slots_in i) = shapes_alike xs all 0 (length m.buses) ∙ ap shapes (sym new) in
      let taken_is : taken m i ≡ taken_of m xs = taken_alike xs each in
      let q1 : keeps_taken (taken m i) (slots_in i) ≡ true
      = ap (λ n. keeps_taken n (slots_in i)) taken_is ∙ sym (taken_shapes (taken_of m xs) 0 (slots_in i)) ∙ ap (keeps_taken (taken_of m xs)) (sym same) ∙ taken_shapes (taken_of m xs) 0 old ∙ p2.0 in
      let q2 : is_joined m (slots_in i) ≡ true = ap (is_joined m) new ∙ joined_alike xs all 0 (length m.buses) p2.1 in
      let q3 : has_reads m (slots_in i) ≡ true = sym (reads_shapes m (slots_in i)) ∙ ap (has_reads m) (sym same) ∙ reads_shapes m old ∙ p3.1 in
      let q4 : has_writes m (slots_in i) ≡ true = sym (writes_shapes m (slots_in i)) ∙ ap (has_writes m) (sym same) ∙ writes_shapes m old ∙ p4.1 in
      let q5 : are_apart (ends_of (slots_in i)) ≡ true = sym (apart_shapes (slots_in i)) ∙ ap (λ q. are_apart (ends_of q)) (sym same) ∙ apart_shapes old ∙ p5.1 in
      let size : length i.moves ≡ length m.buses = length-map (range_with_len 0 (length m.buses)) (λ bus. first_some (λ (x : PlacedItem). move_on addr bus x.slot x.item) xs) ∙ length_range 0 (length m.buses) in
      let sized : (length i.moves == length m.buses) ≡ true = grind (arith, nat_tests) in
      let long : option_map_or (is_long m) i.long true ≡ true = long_is i.long (long_there xs each) word in
      and_from (is_instruction m i) (can_move m (taken m i) (slots_in i)) (and_from (length i.moves == length m.buses) (option_map_or (is_long m) i.long true) sized long)
      (and_from (keeps_taken (taken m i) (slots_in i) && is_joined m (slots_in i) && has_reads m (slots_in i) && has_writes m (slots_in i)) (are_apart (ends_of (slots_in i)))
      (and_from (keeps_taken (taken m i) (slots_in i) && is_joined m (slots_in i) && has_reads m (slots_in i)) (has_writes m (slots_in i))
      (and_from (keeps_taken (taken m i) (slots_in i) && is_joined m (slots_in i)) (has_reads m (slots_in i))
      (and_from (keeps_taken (taken m i) (slots_in i)) (is_joined m (slots_in i)) q1 q2) q3) q4) q5)
