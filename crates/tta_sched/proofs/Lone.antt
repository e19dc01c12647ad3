-- An item alone in its cycle fits there, on a slot that carries it.
use Rattle.std.proofs.Common.{◌≡◌, ℕ, zero, suc, ◌+◌, ◌<◌, ◌≤◌, Bool, true, false, List, [], ◌∷◌, Option, Some, None, refl, ap, subst, arith, length, map}
use Rattle.std.specs.Prelude.{slice_get, count_by, not, ◌||◌, ◌==◌, nat_le, if◌then◌else◌, is_none, is_some}
use Rattle.std.specs.Option.{option_map_or}
use Rattle.std.specs.List.{range_with_len}
use Rattle.std.proofs.lemmas.Bool.{and_parts, and_from, le-leb}
use Rattle.std.proofs.lemmas.Bool.Decides.{nat_tests}
use Rattle.std.proofs.lemmas.List.Sums.{count_by-le-length}
use Rattle.tta_list.proofs.Lists.{list_all_one, some_within}
use Rattle.tta_sched.specs.Cited.{File, Machine, IsMachine, is_file, is_from_to, is_socket, joins, has_bit, Ends, Slots, ends_of, are_apart, can_move, keeps_taken, is_joined, has_reads, has_writes, all_slots, all_below, reads_file, reads_imm, writes_file, first_some, or_else, Item, Slot, Bus, Template, PlacedItem, carried, carries, fits_cycle, slots_of, taken_of, ends_on}
use Rattle.tta_arch.proofs.Facts.{from_to-least}
use Rattle.tta_moves.specs.declared.items.Item.TheVariants as item
use Rattle.tta_arch.proofs.SetLemmas.{has_bit-empty as no_bits}
use Rattle.tta_reserve.proofs.Kept.{no_ends}

-- ---- at most one move

below_from : (p : ℕ → Bool) (n : ℕ) → ((k : ℕ) → k < n → p k ≡ true) → all_below p n ≡ true
below_from p zero h = refl
below_from p (suc n) h = and_from (p n) (all_below p n) (h n (omega arith)) (below_from p n (λ k lt. h k (omega arith)))

-- the numbers of reads and writes that a file has
file_ports : (m : Machine) → IsMachine m → (f : ℕ) → f < length m.files → (1 ≤ option_map_or (λ q. q.read) (slice_get m.files f) 0) × (1 ≤ option_map_or (λ q. q.write) (slice_get m.files f) 0)
file_ports m rules f lt = on (slice_get m.files f) refl where
  on : (o : Option File) → slice_get m.files f ≡ o → (1 ≤ option_map_or (λ q. q.read) o 0) × (1 ≤ option_map_or (λ q. q.write) o 0)
  on None e = let h : is_some (slice_get m.files f) ≡ true = some_within m.files f lt in absurd cc
  on (Some q) e =
      let is = list_all_one (is_file m.sockets) m.files f q rules.files e in
      let sockets = and_parts _ (is_socket m.sockets true q.into) is in
      let other = and_parts _ (is_socket m.sockets false q.out) sockets.0 in
      let writes = and_parts _ (is_from_to 1 16 q.write) other.0 in
      let reads = and_parts _ (is_from_to 1 16 q.read) writes.0 in
      (from_to-least 1 16 q.read reads.1, from_to-least 1 16 q.write writes.1)

-- where at most one move is made, the ports are enough
few_reads : (m : Machine) → IsMachine m → (slots : Slots) → length (ends_of slots) ≤ 1 → (has_reads m slots ≡ true) × (has_writes m slots ≡ true)
few_reads m rules slots few = (and_from _ _ files imms, writes) where
  one : (p : Ends → Bool) → count_by p (ends_of slots) ≤ 1
  one p = let h = count_by-le-length p (ends_of slots) in omega arith

  files : all_below (λ f. nat_le (count_by (λ v. reads_file f v.src) (ends_of slots)) (option_map_or (λ q. q.read) (slice_get m.files f) 0)) (length m.files) ≡ true
  files = below_from _ (length m.files) (λ f lt. let h = one (λ v. reads_file f v.src) in let p = file_ports m rules f lt in le-leb _ _ (omega arith))

  imms : all_below (λ u. nat_le (count_by (λ v. reads_imm u v.src) (ends_of slots)) 1) (length m.imms) ≡ true
  imms = below_from _ (length m.imms) (λ u lt. le-leb _ _ (one (λ v. reads_imm u v.src)))

  writes : has_writes m slots ≡ true
  writes = below_from _ (length m.files) (λ f lt. let h = one (λ v. writes_file f v.dst) in let p = file_ports m rules f lt in le-leb _ _ (omega arith))

apart_one : (vs : List Ends) → length vs ≤ 1 → are_apart vs ≡ true
apart_one [] h = refl
apart_one (v ∷ []) h = refl
apart_one (v ∷ w ∷ vs) h = absurd (omega arith)

-- ---- the slots of one item

-- a move on one bus
abbrev only : (b : ℕ) → Ends → ℕ → Option Ends
only b v bus = or_else (if b == bus then Some v else None) None

only_past : (b : ℕ) (v : Ends) (a n : ℕ) → b < a → ends_of (map (only b v) (range_with_len a n)) ≡ []
only_past b v a zero h = refl
only_past b v a (suc n) h = let no : (b == a) ≡ false = grind (arith, nat_tests) in rw no (only_past b v (a + 1) n (omega arith))

only_few : (b : ℕ) (v : Ends) (a n : ℕ) → length (ends_of (map (only b v) (range_with_len a n))) ≤ 1
only_few b v a zero = omega arith
only_few b v a (suc n) = on (b == a) refl (only_few b v (a + 1) n) where
  on : (t : Bool) → (b == a) ≡ t → length (ends_of (map (only b v) (range_with_len (a + 1) n))) ≤ 1
      → length (ends_of (or_else (if t then Some v else None) None ∷ map (only b v) (range_with_len (a + 1) n))) ≤ 1
  on true e ih = let same : b ≡ a = grind (arith, nat_tests) in rw (only_past b v (a + 1) n (omega arith)) (omega arith)
  on false e ih = ih

all_only : (test : ℕ → Option Ends → Bool) (b : ℕ) (v : Ends) → ((k : ℕ) → test k None ≡ true) → test b (Some v) ≡ true → (a n : ℕ) → all_slots test a (map (only b v) (range_with_len a n)) ≡ true
all_only test b v none here a zero = refl
all_only test b v none here a (suc n) = and_from _ _ (on (b == a) refl) (all_only test b v none here (a + 1) n) where
  on : (t : Bool) → (b == a) ≡ t → test a (or_else (if t then Some v else None) None) ≡ true
  on true e = let same : b ≡ a = grind (arith, nat_tests) in subst (λ k. test k (Some v) ≡ true) same here
  on false e = none a

nothing : ℕ → Option Ends
nothing bus = None

all_none : (test : ℕ → Option Ends → Bool) → ((k : ℕ) → test k None ≡ true) → (a n : ℕ) → all_slots test a (map (λ (bus : ℕ). None) (range_with_len a n)) ≡ true
all_none test none a zero = refl
all_none test none a (suc n) = and_from _ _ (none a) (all_none test none (a + 1) n)

-- slots that can be made
can : (m : Machine) → IsMachine m → (taken : ℕ) (slots : Slots) → keeps_taken taken slots ≡ true → is_joined m slots ≡ true → length (ends_of slots) ≤ 1 → can_move m taken slots ≡ true
unfolding can_move
can m rules taken slots untaken joined few =
    let ports = few_reads m rules slots few in
    let apart = apart_one (ends_of slots) few in
    rw (untaken, joined, ports.0, ports.1, apart) refl

pub none_fits : (m : Machine) → IsMachine m → fits_cycle m [] ≡ true
unfolding fits_cycle
none_fits m rules =
    can m rules 0 (slots_of m []) (all_none (λ bus o. is_none o || not (has_bit 0 bus)) (λ k. refl) 0 (length m.buses))
    (all_none (λ bus o. option_map_or (λ v. joins m bus v.src v.dst v.guard) o true) (λ k. refl) 0 (length m.buses))
    (let e = ap length (no_ends 0 (length m.buses)) in omega arith)

pub alone_fits : (m : Machine) → IsMachine m → (x : PlacedItem) → carries m x.slot x.item ≡ true → fits_cycle m (x ∷ []) ≡ true
unfolding fits_cycle
alone_fits m rules x h = and_from _ _ (and_from _ _ (and_from _ _ h refl) refl) (on x.slot x.item h) where
  one : Slot → Item → ℕ → Option Ends
  one s i bus = first_some (ends_on m bus) (record x { slot = s; item = i } ∷ [])

  on : (s : Slot) (i : Item) → carries m s i ≡ true → can_move m (taken_of m (record x { slot = s; item = i } ∷ [])) (slots_of m (record x { slot = s; item = i } ∷ [])) ≡ true
  on (Bus b) (item.Move guard src dst) c =
      let v : Ends = record { guard = guard; src = carried m src; dst = dst } in
      let n : ℕ = length m.buses in
      can m rules 0 (map (only b v) (range_with_len 0 n))
      (all_only (λ bus o. is_none o || not (has_bit 0 bus)) b v (λ k. refl) (let z = no_bits b in rw z refl) 0 n)
      (all_only (λ bus o. option_map_or (λ w. joins m bus w.src w.dst w.guard) o true) b v (λ k. refl) c 0 n)
      (only_few b v 0 n)
  on (Bus b) (item.Long unit index value) c = absurd cc
  on (Template t) (item.Move guard src dst) c = absurd cc
  on (Template t) (item.Long unit index value) c =
      let n : ℕ = length m.buses in
      can m rules _ (map (λ (bus : ℕ). None) (range_with_len 0 n))
      (all_none (λ bus o. is_none o || not (has_bit _ bus)) (λ k. refl) 0 n)
      (all_none (λ bus o. option_map_or (λ w. joins m bus w.src w.dst w.guard) o true) (λ k. refl) 0 n)
      (let e = ap length (no_ends 0 n) in omega arith)
