-- A cycle with one item more: what its buses and its template are then, and what it is that it can be carried out.
use Rattle.std.proofs.Common.{◌≡◌, ◌≢◌, ℕ, zero, suc, ◌+◌, ◌<◌, Bool, true, false, List, [], ◌∷◌, ◌++◌, Option, Some, None, refl, sym, ap, subst, ◌∙◌, arith, length, map, set, cond}
use Rattle.std.specs.Prelude.{slice_get, count_by, not, ◌&&◌, ◌||◌, ◌==◌, if◌then◌else◌}
use Rattle.std.specs.Option.{option_map_or}
use Rattle.std.specs.List.{list_all, list_any, range_with_len}
use Rattle.std.proofs.lemmas.Bool.{and_parts, and_from, eq-eqb, ne_eqb}
use Rattle.tta_arch.specs.declared.parts.Template.{Template as Field}
use Rattle.tta_reserve.specs.Cited.{GuardRef, Dest, Machine, are_different, Ends, Slots, ends_of, same_place, are_apart, can_move, keeps_taken, is_joined, has_reads, has_writes, first_some, or_else, ItemSource, LongValue, Item, Slot, Bus, Template, PlacedItem, carried, carries, clash, fits_cycle, slots_of, taken_of, taken_by, ends_on}
use Rattle.tta_moves.specs.declared.items.Item.TheVariants as item
use Rattle.tta_reserve.specs.Taken.{is_template, buses_of, meets, is_apart}
use Rattle.tta_moves.proofs.Numbered.{map_alike, set_alike}
use Rattle.tta_moves.proofs.OnSlots.{ends_at, taken_at}
use Rattle.tta_reserve.proofs.Lists.{first_push, all_last, get_alike}
use Rattle.tta_reserve.proofs.Places.{same_sym}
use Rattle.tta_reserve.proofs.Slots.{count_set, is_elsewhere}
use Rattle.tta_arch.proofs.FirstSome.{or_none}

-- ---- what it is that items can be carried out in one cycle

pub record CanMove (m : Machine) (taken : ℕ) (slots : Slots) : Type 0 where
  pub keeps : keeps_taken taken slots ≡ true
  pub joined : is_joined m slots ≡ true
  pub reads : has_reads m slots ≡ true
  pub writes : has_writes m slots ≡ true
  pub apart : are_apart (ends_of slots) ≡ true

pub record Fits (m : Machine) (xs : List PlacedItem) : Type 0 where
  pub carry : list_all (λ y. carries m y.slot y.item) xs ≡ true
  pub different : are_different clash (map (λ y. y.slot) xs) ≡ true
  pub moves : CanMove m (taken_of m xs) (slots_of m xs)

pub fits_parts : (m : Machine) (xs : List PlacedItem) → fits_cycle m xs ≡ true → Fits m xs
unfolding fits_cycle can_move
fits_parts m xs fits =
    let n : ℕ = taken_of m xs in
    let slots : Slots = slots_of m xs in
    let a = and_parts (list_all (λ (y : PlacedItem). carries m y.slot y.item) xs && are_different clash (map (λ (y : PlacedItem). y.slot) xs)) (can_move m n slots) fits in
    let b = and_parts (list_all (λ (y : PlacedItem). carries m y.slot y.item) xs) (are_different clash (map (λ (y : PlacedItem). y.slot) xs)) a.0 in
    let p5 = and_parts (keeps_taken n slots && is_joined m slots && has_reads m slots && has_writes m slots) (are_apart (ends_of slots)) a.1 in
    let p4 = and_parts (keeps_taken n slots && is_joined m slots && has_reads m slots) (has_writes m slots) p5.0 in
    let p3 = and_parts (keeps_taken n slots && is_joined m slots) (has_reads m slots) p4.0 in
    let p2 = and_parts (keeps_taken n slots) (is_joined m slots) p3.0 in
    record {
      carry = b.0;
      different = b.1;
      moves = record { keeps = p2.0; joined = p2.1; reads = p3.1; writes = p4.1; apart = p5.1 };
    }

pub fits_from : (m : Machine) (xs : List PlacedItem) → Fits m xs → fits_cycle m xs ≡ true
unfolding fits_cycle can_move
fits_from m xs f =
    let n : ℕ = taken_of m xs in
    let slots : Slots = slots_of m xs in
    and_from (list_all (λ (y : PlacedItem). carries m y.slot y.item) xs && are_different clash (map (λ (y : PlacedItem). y.slot) xs)) (can_move m n slots)
    (and_from (list_all (λ (y : PlacedItem). carries m y.slot y.item) xs) (are_different clash (map (λ (y : PlacedItem). y.slot) xs)) f.carry f.different)
    (and_from (keeps_taken n slots && is_joined m slots && has_reads m slots && has_writes m slots) (are_apart (ends_of slots))
    (and_from (keeps_taken n slots && is_joined m slots && has_reads m slots) (has_writes m slots)
    (and_from (keeps_taken n slots && is_joined m slots) (has_reads m slots)
    (and_from (keeps_taken n slots) (is_joined m slots) f.moves.keeps f.moves.joined) f.moves.reads) f.moves.writes) f.moves.apart)

-- an item that is carried out is carried by its slot
pub carried_there : (m : Machine) (xs : List PlacedItem) (x : PlacedItem) → fits_cycle m (xs ++ x ∷ []) ≡ true → carries m x.slot x.item ≡ true
carried_there m xs x fits = all_last (λ (y : PlacedItem). carries m y.slot y.item) xs x (fits_parts m (xs ++ x ∷ []) fits).carry

-- ---- items on their slots

-- a bus without a move is no item's slot
pub no_clash : (m : Machine) (bus : ℕ) (xs : List PlacedItem) → list_all (λ (y : PlacedItem). carries m y.slot y.item) xs ≡ true → first_some (ends_on m bus) xs ≡ None
    → list_any (λ s. clash s (Bus bus)) (map (λ (y : PlacedItem). y.slot) xs) ≡ false
no_clash m bus [] all e = refl
no_clash m bus (y ∷ xs) all e =
    let two = and_parts (carries m y.slot y.item) (list_all (λ (z : PlacedItem). carries m z.slot z.item) xs) all in
    on y.slot y.item two.0 e (no_clash m bus xs two.1) where
      on : (s : Slot) (i : Item) → carries m s i ≡ true → or_else (ends_at m bus s i) (first_some (ends_on m bus) xs) ≡ None
          → (first_some (ends_on m bus) xs ≡ None → list_any (λ s. clash s (Bus bus)) (map (λ (z : PlacedItem). z.slot) xs) ≡ false)
          → (clash s (Bus bus) || list_any (λ s. clash s (Bus bus)) (map (λ (z : PlacedItem). z.slot) xs)) ≡ false
      on (Bus b) (item.Move guard src dst) c e ih = by (b == bus) e where
        by : (t : Bool) → or_else (if t then Some (record { guard = guard; src = carried m src; dst = dst }) else None) (first_some (ends_on m bus) xs) ≡ None
            → (t || list_any (λ s. clash s (Bus bus)) (map (λ (z : PlacedItem). z.slot) xs)) ≡ false
        by true e = absurd cc
        by false e = ih e
      on (Bus b) (item.Long unit index value) c e ih = absurd cc
      on (Template t) i c e ih = ih e

-- where no slot is the bus, no item has a move on it
pub no_move : (m : Machine) (bus : ℕ) (xs : List PlacedItem) → list_any (λ s. clash s (Bus bus)) (map (λ (y : PlacedItem). y.slot) xs) ≡ false → first_some (ends_on m bus) xs ≡ None
no_move m bus [] e = refl
no_move m bus (y ∷ xs) e = on y.slot y.item e (no_move m bus xs) where
  on : (s : Slot) (i : Item) → (clash s (Bus bus) || list_any (λ s. clash s (Bus bus)) (map (λ (z : PlacedItem). z.slot) xs)) ≡ false
      → (list_any (λ s. clash s (Bus bus)) (map (λ (z : PlacedItem). z.slot) xs) ≡ false → first_some (ends_on m bus) xs ≡ None)
      → or_else (ends_at m bus s i) (first_some (ends_on m bus) xs) ≡ None
  on (Bus b) (item.Move guard src dst) e ih = by (b == bus) e where
    by : (t : Bool) → (t || list_any (λ s. clash s (Bus bus)) (map (λ (z : PlacedItem). z.slot) xs)) ≡ false
        → or_else (if t then Some (record { guard = guard; src = carried m src; dst = dst }) else None) (first_some (ends_on m bus) xs) ≡ None
    by true e = absurd cc
    by false e = ih e
  on (Bus b) (item.Long unit index value) e ih = by (b == bus) e where
    by : (t : Bool) → (t || list_any (λ s. clash s (Bus bus)) (map (λ (z : PlacedItem). z.slot) xs)) ≡ false → first_some (ends_on m bus) xs ≡ None
    by true e = absurd cc
    by false e = ih e
  on (Template t) i e ih = ih e

-- where an item goes elsewhere than the items of a cycle, it goes elsewhere than their moves
elsewhere_at : (m : Machine) (k : ℕ) (g : Option GuardRef) (s : ItemSource) (d : Dest) (slot : Slot) (i : Item) (w : Ends)
    → ends_at m k slot i ≡ Some w → not (meets i (item.Move g s d)) ≡ true → is_elsewhere d w ≡ true
elsewhere_at m k g s d (Bus b) (item.Move guard src dst) w e h = on (b == k) e where
  both : (not (same_place dst d) && not (same_place d dst)) ≡ true
  both = and_from (not (same_place dst d)) (not (same_place d dst)) h (ap not (same_sym d dst) ∙ h)

  on : (t : Bool) → (if t then Some (record { guard = guard; src = carried m src; dst = dst }) else None) ≡ Some w → is_elsewhere d w ≡ true
  on true e =
      let is : record { guard = guard; src = carried m src; dst = dst } ≡ w = cc in
      subst (λ (u : Ends). is_elsewhere d u ≡ true) is both
  on false e = absurd cc
elsewhere_at m k g s d (Bus b) (item.Long unit index value) w e h = absurd cc
elsewhere_at m k g s d (Template t) i w e h = absurd cc

first_elsewhere : (m : Machine) (k : ℕ) (g : Option GuardRef) (s : ItemSource) (d : Dest) (xs : List PlacedItem) (w : Ends)
    → is_apart (item.Move g s d) xs ≡ true → first_some (ends_on m k) xs ≡ Some w → is_elsewhere d w ≡ true
first_elsewhere m k g s d [] w all e = absurd cc
first_elsewhere m k g s d (y ∷ xs) w all e =
    let two = and_parts (not (meets y.item (item.Move g s d))) (is_apart (item.Move g s d) xs) all in
    on (ends_at m k y.slot y.item) refl e two.0 (first_elsewhere m k g s d xs w two.1) where
      on : (o : Option Ends) → ends_at m k y.slot y.item ≡ o → or_else o (first_some (ends_on m k) xs) ≡ Some w → not (meets y.item (item.Move g s d)) ≡ true
          → (first_some (ends_on m k) xs ≡ Some w → is_elsewhere d w ≡ true) → is_elsewhere d w ≡ true
      on None q e h ih = ih e
      on (Some u) q e h ih = let same : u ≡ w = cc in elsewhere_at m k g s d y.slot y.item w (q ∙ ap Some same) h

pub slots_elsewhere : (m : Machine) (g : Option GuardRef) (s : ItemSource) (d : Dest) (xs : List PlacedItem) → is_apart (item.Move g s d) xs ≡ true → (a n : ℕ)
    → list_all (is_elsewhere d) (ends_of (map (λ bus. first_some (ends_on m bus) xs) (range_with_len a n))) ≡ true
slots_elsewhere m g s d xs all a zero = refl
slots_elsewhere m g s d xs all a (suc n) = on (first_some (ends_on m a) xs) refl (slots_elsewhere m g s d xs all (a + 1) n) where
  on : (o : Option Ends) → first_some (ends_on m a) xs ≡ o → list_all (is_elsewhere d) (ends_of (map (λ bus. first_some (ends_on m bus) xs) (range_with_len (a + 1) n))) ≡ true
      → list_all (is_elsewhere d) (ends_of (o ∷ map (λ bus. first_some (ends_on m bus) xs) (range_with_len (a + 1) n))) ≡ true
  on None e ih = ih
  on (Some w) e ih = and_from (is_elsewhere d w) (list_all (is_elsewhere d) (ends_of (map (λ bus. first_some (ends_on m bus) xs) (range_with_len (a + 1) n)))) (first_elsewhere m a g s d xs w all e) ih

-- ---- a move more

-- a move on a bus, and what the bus carries then
abbrev pub move_on : (bus cycle : ℕ) → Option GuardRef → ItemSource → Dest → PlacedItem
move_on bus cycle guard src dst = record { item = item.Move guard src dst; cycle = cycle; slot = Bus bus }

abbrev pub ends_from : Machine → Option GuardRef → ItemSource → Dest → Ends
ends_from m guard src dst = record { guard = guard; src = carried m src; dst = dst }

move_here : (m : Machine) (bus c : ℕ) (g : Option GuardRef) (s : ItemSource) (d : Dest) → ends_on m bus (move_on bus c g s d) ≡ Some (ends_from m g s d)
move_here m bus c g s d = by (bus == bus) (eq-eqb bus bus refl) where
  by : (t : Bool) → t ≡ true → (if t then Some (ends_from m g s d) else None) ≡ Some (ends_from m g s d)
  by true e = refl
  by false e = absurd cc

move_other : (m : Machine) (bus c k : ℕ) (g : Option GuardRef) (s : ItemSource) (d : Dest) → k ≢ bus → ends_on m k (move_on bus c g s d) ≡ None
move_other m bus c k g s d ne = by (bus == k) (ne_eqb bus k (λ e. ne (sym e))) where
  by : (t : Bool) → t ≡ false → (if t then Some (ends_from m g s d) else None) ≡ None
  by true e = absurd cc
  by false e = refl

-- the moves of the other buses stay
pub others_stay : (m : Machine) (xs : List PlacedItem) (bus c k : ℕ) (g : Option GuardRef) (s : ItemSource) (d : Dest) → k ≢ bus
    → first_some (ends_on m k) (xs ++ move_on bus c g s d ∷ []) ≡ first_some (ends_on m k) xs
others_stay m xs bus c k g s d ne =
    first_push (ends_on m k) xs (move_on bus c g s d) ∙ ap (or_else (first_some (ends_on m k) xs)) (move_other m bus c k g s d ne) ∙ or_none (first_some (ends_on m k) xs)

-- the bus has the move
pub moves_here : (m : Machine) (xs : List PlacedItem) (bus c : ℕ) (g : Option GuardRef) (s : ItemSource) (d : Dest) → first_some (ends_on m bus) xs ≡ None
    → first_some (ends_on m bus) (xs ++ move_on bus c g s d ∷ []) ≡ Some (ends_from m g s d)
moves_here m xs bus c g s d none =
    first_push (ends_on m bus) xs (move_on bus c g s d) ∙ ap (λ o. or_else o (ends_on m bus (move_on bus c g s d))) none ∙ move_here m bus c g s d

pub slots_push : (m : Machine) (xs : List PlacedItem) (bus c : ℕ) (g : Option GuardRef) (s : ItemSource) (d : Dest) → bus < length m.buses → first_some (ends_on m bus) xs ≡ None
    → set (slots_of m xs) bus (Some (ends_from m g s d)) ≡ slots_of m (xs ++ move_on bus c g s d ∷ [])
slots_push m xs bus c g s d lt none =
    set_alike (λ k. first_some (ends_on m k) xs) (λ k. first_some (ends_on m k) (xs ++ move_on bus c g s d ∷ [])) 0 (length m.buses) bus bus (Some (ends_from m g s d)) lt (omega arith)
    (moves_here m xs bus c g s d none) (λ k ne. sym (others_stay m xs bus c k g s d ne))

pub slot_at : (m : Machine) (xs : List PlacedItem) (bus : ℕ) → bus < length m.buses → slice_get (slots_of m xs) bus ≡ Some (first_some (ends_on m bus) xs)
slot_at m xs bus lt = get_alike (λ k. first_some (ends_on m k) xs) 0 (length m.buses) bus bus lt (omega arith)

pub taken_push : (m : Machine) (xs : List PlacedItem) (bus c : ℕ) (g : Option GuardRef) (s : ItemSource) (d : Dest) → taken_of m (xs ++ move_on bus c g s d ∷ []) ≡ taken_of m xs
taken_push m xs bus c g s d = ap (λ o. option_map_or (λ (n : ℕ). n) o 0) (first_push (taken_by m) xs (move_on bus c g s d) ∙ or_none (first_some (taken_by m) xs))

pub counts_push : (m : Machine) (xs : List PlacedItem) (bus c : ℕ) (g : Option GuardRef) (s : ItemSource) (d : Dest) → bus < length m.buses → first_some (ends_on m bus) xs ≡ None
    → (p : Ends → Bool) → count_by p (ends_of (slots_of m (xs ++ move_on bus c g s d ∷ []))) ≡ count_by p (ends_of (slots_of m xs)) + cond (p (ends_from m g s d)) 1 0
counts_push m xs bus c g s d lt none p =
    ap (λ l. count_by p (ends_of l)) (sym (slots_push m xs bus c g s d lt none))
    ∙ count_set p (slots_of m xs) bus (ends_from m g s d) (slot_at m xs bus lt ∙ ap Some none)

-- ---- a long immediate more

-- a long immediate on a template
abbrev pub long_on : (t cycle unit index : ℕ) → LongValue → PlacedItem
long_on t cycle unit index value = record { item = item.Long unit index value; cycle = cycle; slot = Template t }

pub same_moves : (m : Machine) (xs : List PlacedItem) (t c unit index : ℕ) (value : LongValue) (k : ℕ)
    → first_some (ends_on m k) (xs ++ long_on t c unit index value ∷ []) ≡ first_some (ends_on m k) xs
same_moves m xs t c unit index value k = first_push (ends_on m k) xs (long_on t c unit index value) ∙ or_none (first_some (ends_on m k) xs)

pub same_slots : (m : Machine) (xs : List PlacedItem) (t c unit index : ℕ) (value : LongValue) → slots_of m (xs ++ long_on t c unit index value ∷ []) ≡ slots_of m xs
same_slots m xs t c unit index value =
    map_alike (λ k. first_some (ends_on m k) (xs ++ long_on t c unit index value ∷ [])) (λ k. first_some (ends_on m k) xs) 0 (length m.buses)
    (λ k l. same_moves m xs t c unit index value k)

none_taken : (m : Machine) (xs : List PlacedItem) → list_any (λ (y : PlacedItem). is_template y.slot) xs ≡ false → first_some (taken_by m) xs ≡ None
none_taken m [] e = refl
none_taken m (y ∷ xs) e = on y.slot e (none_taken m xs) where
  on : (s : Slot) → (is_template s || list_any (λ (z : PlacedItem). is_template z.slot) xs) ≡ false
      → (list_any (λ (z : PlacedItem). is_template z.slot) xs ≡ false → first_some (taken_by m) xs ≡ None)
      → or_else (taken_at m s) (first_some (taken_by m) xs) ≡ None
  on (Bus b) e ih = ih e
  on (Template t) e ih = absurd cc

-- a list of slots clashes with a template where it has one
pub clash_is : (t : ℕ) (xs : List PlacedItem) → list_any (λ s. clash s (Template t)) (map (λ (y : PlacedItem). y.slot) xs) ≡ list_any (λ (y : PlacedItem). is_template y.slot) xs
clash_is t [] = refl
clash_is t (y ∷ xs) = on y.slot (clash_is t xs) where
  on : (s : Slot) → list_any (λ s. clash s (Template t)) (map (λ (z : PlacedItem). z.slot) xs) ≡ list_any (λ (z : PlacedItem). is_template z.slot) xs
      → (clash s (Template t) || list_any (λ s. clash s (Template t)) (map (λ (z : PlacedItem). z.slot) xs)) ≡ (is_template s || list_any (λ (z : PlacedItem). is_template z.slot) xs)
  on (Bus b) ih = ih
  on (Template u) ih = refl

-- the buses of the first template of a cycle are taken
pub takes_buses : (m : Machine) (xs : List PlacedItem) (t c unit index : ℕ) (value : LongValue) → list_any (λ (y : PlacedItem). is_template y.slot) xs ≡ false
    → taken_of m (xs ++ long_on t c unit index value ∷ []) ≡ buses_of m.templates t
takes_buses m xs t c unit index value none =
    ap (λ o. option_map_or (λ (n : ℕ). n) o 0) (first_push (taken_by m) xs (long_on t c unit index value) ∙ ap (λ o. or_else o (taken_at m (Template t))) (none_taken m xs none))
    ∙ on (slice_get m.templates t) where
      on : (o : Option Field) → option_map_or (λ (n : ℕ). n) (option_map_or (λ (q : Field). Some q.buses) o None) 0 ≡ option_map_or (λ (q : Field). q.buses) o 0
      on None = refl
      on (Some q) = refl
