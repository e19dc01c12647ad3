-- A move fits beside the items of a cycle that go elsewhere where its bus joins its ends and is free and its ends have room.
use Rattle.std.proofs.Common.{◌≡◌, ℕ, ◌+◌, Bool, true, false, List, [], ◌∷◌, ◌++◌, Option, Some, None, refl, sym, ap, subst, ◌∙◌, arith, length, map, set, cond}
use Rattle.std.specs.Prelude.{slice_get, count_by, not, ◌&&◌, ◌||◌, ◌==◌, nat_le, nat_lt, is_none}
use Rattle.std.specs.Option.{option_map_or}
use Rattle.std.proofs.lemmas.List.{map_push}
use Rattle.std.proofs.lemmas.Bool.{and_parts, and_from}
use Rattle.std.proofs.lemmas.Bool.Decides.{nat_tests}
use Rattle.tta_list.proofs.Lists.{list_all_push}
use Rattle.tta_reserve.specs.Cited.{GuardRef, Source, Dest, Machine, IsMachine, are_different, joins, has_bit, Ends, Slots, ends_of, all_below, reads_file, reads_imm, writes_file, first_some, ItemSource, Bus, PlacedItem, carries, clash, slots_of, taken_of, ends_on}
use Rattle.tta_arch.specs.declared.ends.Source.TheVariants as source
use Rattle.tta_arch.specs.declared.ends.Dest.TheVariants as dest
use Rattle.tta_arch.proofs.Lists.{different_push}
use Rattle.tta_moves.specs.declared.items.Item.TheVariants as item
use Rattle.tta_moves.proofs.Buses.{joins_below}
use Rattle.tta_reserve.specs.Taken.{file_reads, imm_reads, file_writes, is_apart}
use Rattle.tta_reserve.proofs.Slots.{count_set, slots_set, below_map, apart_set}
use Rattle.tta_reserve.proofs.Pushed.{CanMove, Fits, move_on, ends_from, no_clash, slots_elsewhere, slots_push, slot_at, taken_push}

-- ---- what the items of a cycle leave

-- whether they leave a read of a source
abbrev pub may_read : Machine → List PlacedItem → Source → Bool
may_read m xs (source.Reg file index) = nat_lt (file_reads m xs file) (option_map_or (λ q. q.read) (slice_get m.files file) 0)
may_read m xs (source.Imm unit index) = imm_reads m xs unit == 0
may_read m xs (source.Shown unit) = true
may_read m xs source.Ra = true
may_read m xs (source.Value word) = true

-- whether they leave a write of a destination
abbrev pub may_write : Machine → List PlacedItem → Dest → Bool
may_write m xs (dest.Reg file index) = nat_lt (file_writes m xs file) (option_map_or (λ q. q.write) (slice_get m.files file) 0)
may_write m xs (dest.Operand unit) = true
may_write m xs (dest.Trigger unit op) = true
may_write m xs dest.Jump = true
may_write m xs dest.Call = true
may_write m xs dest.Halt = true

-- whether they leave a bus free
abbrev pub is_free : Machine → List PlacedItem → (bus : ℕ) → Bool
is_free m xs bus = is_none (first_some (ends_on m bus) xs) && not (has_bit (taken_of m xs) bus)

-- all that a move asks for
pub record Leave (m : Machine) (xs : List PlacedItem) (bus : ℕ) (v : Ends) : Type 0 where
  pub join : joins m bus v.src v.dst v.guard ≡ true
  pub free : is_free m xs bus ≡ true
  pub read : may_read m xs v.src ≡ true
  pub write : may_write m xs v.dst ≡ true

pub is_nothing : (o : Option Ends) → is_none o ≡ true → o ≡ None
is_nothing None h = refl
is_nothing (Some w) h = absurd cc

-- ---- counts

reads_one : (m : Machine) (xs : List PlacedItem) (s : Source) (f n : ℕ) → may_read m xs s ≡ true → n ≡ file_reads m xs f + cond (reads_file f s) 1 0
    → nat_le (file_reads m xs f) (option_map_or (λ q. q.read) (slice_get m.files f) 0) ≡ true → nat_le n (option_map_or (λ q. q.read) (slice_get m.files f) 0) ≡ true
reads_one m xs (source.Reg g i) f n h is le = on (g == f) refl is where
  on : (t : Bool) → (g == f) ≡ t → n ≡ file_reads m xs f + cond t 1 0 → nat_le n (option_map_or (λ q. q.read) (slice_get m.files f) 0) ≡ true
  on true e is =
      let same : g ≡ f = grind (arith, nat_tests) in
      let lt : nat_lt (file_reads m xs f) (option_map_or (λ q. q.read) (slice_get m.files f) 0) ≡ true = subst (λ k. nat_lt (file_reads m xs k) (option_map_or (λ q. q.read) (slice_get m.files k) 0) ≡ true) same h in
      grind (arith, nat_tests)
  on false e is = let same : n ≡ file_reads m xs f = omega arith in rw same le
reads_one m xs (source.Imm u i) f n h is le = let same : n ≡ file_reads m xs f = omega arith in rw same le
reads_one m xs (source.Shown u) f n h is le = let same : n ≡ file_reads m xs f = omega arith in rw same le
reads_one m xs source.Ra f n h is le = let same : n ≡ file_reads m xs f = omega arith in rw same le
reads_one m xs (source.Value w) f n h is le = let same : n ≡ file_reads m xs f = omega arith in rw same le

imms_one : (m : Machine) (xs : List PlacedItem) (s : Source) (u n : ℕ) → may_read m xs s ≡ true → n ≡ imm_reads m xs u + cond (reads_imm u s) 1 0
    → nat_le (imm_reads m xs u) 1 ≡ true → nat_le n 1 ≡ true
imms_one m xs (source.Imm g i) u n h is le = on (g == u) refl is where
  on : (t : Bool) → (g == u) ≡ t → n ≡ imm_reads m xs u + cond t 1 0 → nat_le n 1 ≡ true
  on true e is =
      let same : g ≡ u = grind (arith, nat_tests) in
      let none : (imm_reads m xs u == 0) ≡ true = subst (λ k. (imm_reads m xs k == 0) ≡ true) same h in
      grind (arith, nat_tests)
  on false e is = let same : n ≡ imm_reads m xs u = omega arith in rw same le
imms_one m xs (source.Reg f i) u n h is le = let same : n ≡ imm_reads m xs u = omega arith in rw same le
imms_one m xs (source.Shown q) u n h is le = let same : n ≡ imm_reads m xs u = omega arith in rw same le
imms_one m xs source.Ra u n h is le = let same : n ≡ imm_reads m xs u = omega arith in rw same le
imms_one m xs (source.Value w) u n h is le = let same : n ≡ imm_reads m xs u = omega arith in rw same le

writes_one : (m : Machine) (xs : List PlacedItem) (d : Dest) (f n : ℕ) → may_write m xs d ≡ true → n ≡ file_writes m xs f + cond (writes_file f d) 1 0
    → nat_le (file_writes m xs f) (option_map_or (λ q. q.write) (slice_get m.files f) 0) ≡ true → nat_le n (option_map_or (λ q. q.write) (slice_get m.files f) 0) ≡ true
writes_one m xs (dest.Reg g i) f n h is le = on (g == f) refl is where
  on : (t : Bool) → (g == f) ≡ t → n ≡ file_writes m xs f + cond t 1 0 → nat_le n (option_map_or (λ q. q.write) (slice_get m.files f) 0) ≡ true
  on true e is =
      let same : g ≡ f = grind (arith, nat_tests) in
      let lt : nat_lt (file_writes m xs f) (option_map_or (λ q. q.write) (slice_get m.files f) 0) ≡ true = subst (λ k. nat_lt (file_writes m xs k) (option_map_or (λ q. q.write) (slice_get m.files k) 0) ≡ true) same h in
      grind (arith, nat_tests)
  on false e is = let same : n ≡ file_writes m xs f = omega arith in rw same le
writes_one m xs (dest.Operand u) f n h is le = let same : n ≡ file_writes m xs f = omega arith in rw same le
writes_one m xs (dest.Trigger u o) f n h is le = let same : n ≡ file_writes m xs f = omega arith in rw same le
writes_one m xs dest.Jump f n h is le = let same : n ≡ file_writes m xs f = omega arith in rw same le
writes_one m xs dest.Call f n h is le = let same : n ≡ file_writes m xs f = omega arith in rw same le
writes_one m xs dest.Halt f n h is le = let same : n ≡ file_writes m xs f = omega arith in rw same le

-- ---- the cycle

pub fits_one_more : (m : Machine) → IsMachine m → (xs : List PlacedItem) (bus c : ℕ) (g : Option GuardRef) (s : ItemSource) (d : Dest)
    → Fits m xs → is_apart (item.Move g s d) xs ≡ true → Leave m xs bus (ends_from m g s d) → Fits m (xs ++ move_on bus c g s d ∷ [])
fits_one_more m rules xs bus c g s d fits apart leave =
    let x : PlacedItem = move_on bus c g s d in
    let v : Ends = ends_from m g s d in
    let old : Slots = slots_of m xs in
    let new : Slots = set old bus (Some v) in
    let free = and_parts (is_none (first_some (ends_on m bus) xs)) (not (has_bit (taken_of m xs) bus)) leave.free in
    let none : first_some (ends_on m bus) xs ≡ None = is_nothing (first_some (ends_on m bus) xs) free.0 in
    let lt = joins_below m rules bus v.src v.dst v.guard leave.join in
    let empty : slice_get old bus ≡ Some None = slot_at m xs bus lt ∙ ap Some none in
    let reads = and_parts (all_below (λ f. nat_le (count_by (λ w. reads_file f w.src) (ends_of old)) (option_map_or (λ q. q.read) (slice_get m.files f) 0)) (length m.files))
    (all_below (λ u. nat_le (count_by (λ w. reads_imm u w.src) (ends_of old)) 1) (length m.imms)) fits.moves.reads in
    let moves : CanMove m (taken_of m xs) new = record {
      keeps = slots_set (λ k o. is_none o || not (has_bit (taken_of m xs) k)) old 0 bus bus v (omega arith) fits.moves.keeps free.1;
      joined = slots_set (λ k o. option_map_or (λ w. joins m k w.src w.dst w.guard) o true) old 0 bus bus v (omega arith) fits.moves.joined leave.join;
      reads = and_from (all_below (λ f. nat_le (count_by (λ w. reads_file f w.src) (ends_of new)) (option_map_or (λ q. q.read) (slice_get m.files f) 0)) (length m.files))
          (all_below (λ u. nat_le (count_by (λ w. reads_imm u w.src) (ends_of new)) 1) (length m.imms))
          (below_map _ _ (length m.files) (λ f le. reads_one m xs v.src f (count_by (λ w. reads_file f w.src) (ends_of new)) leave.read (count_set (λ w. reads_file f w.src) old bus v empty) le) reads.0)
          (below_map _ _ (length m.imms) (λ u le. imms_one m xs v.src u (count_by (λ w. reads_imm u w.src) (ends_of new)) leave.read (count_set (λ w. reads_imm u w.src) old bus v empty) le) reads.1);
      writes = below_map _ _ (length m.files) (λ f le. writes_one m xs v.dst f (count_by (λ w. writes_file f w.dst) (ends_of new)) leave.write (count_set (λ w. writes_file f w.dst) old bus v empty) le) fits.moves.writes;
      apart = apart_set old bus v empty fits.moves.apart (slots_elsewhere m g s d xs apart 0 (length m.buses));
    } in
    record {
      carry = list_all_push (λ (y : PlacedItem). carries m y.slot y.item) xs x fits.carry leave.join;
      different = ap (are_different clash) (map_push (λ (y : PlacedItem). y.slot) xs x)
          ∙ different_push clash (map (λ (y : PlacedItem). y.slot) xs) (Bus bus) fits.different (no_clash m bus xs fits.carry none);
      moves = subst (λ n. CanMove m n (slots_of m (xs ++ x ∷ []))) (sym (taken_push m xs bus c g s d)) (subst (CanMove m (taken_of m xs)) (slots_push m xs bus c g s d lt none) moves);
    }
