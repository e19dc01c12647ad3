-- The tables say which item last changed each channel.
use Rattle.std.proofs.Common.{◌≡◌, ◌≢◌, ℕ, ◌+◌, ◌<◌, ◌≤◌, Bool, true, false, List, length, Option, Some, None, refl, sym, ap, subst, arith, ◌∙◌, get_or-set_same, get_or-set_other, length-set}
use Rattle.std.specs.Prelude.{if◌then◌else◌, ◌==◌, ◌&&◌, nat_lt, option_map, slice_index, slice_set}
use Rattle.std.specs.Option.{option_map_or}
use Rattle.std.proofs.lemmas.Bool.Decides.{nat_tests}
use Rattle.std.proofs.lemmas.List.{get_or-replicate, length-replicate}
use Rattle.tta_reorder.specs.Cited.{Machine, Place, same_place, Item, target_of_item, place_written, is_at, is_control, place_number, is_place}
use Rattle.tta_moves.proofs.Places.{either, same_self}
use Rattle.tta_moves.proofs.InRange.{one_place, number_below, InRange}
use Rattle.tta_reorder.specs.Channels.{Channel, Word, Data, Frame, Traffic, Ending, Division, part_of, starts, stores_data, stores_frame, passes_words, alters}
use Rattle.tta_reorder.specs.Rows.{none_changed, channel_number, if_so, put, passed}
use Rattle.tta_list.proofs.Tests.{eq_same as self_equal}
use Rattle.tta_arch.proofs.Places.{same_is}

-- a channel that a table has an entry for
abbrev pub is_channel : Channel → Bool
is_channel (Word p) = is_place p
is_channel Data = true
is_channel (Frame part) = nat_lt part 1024
is_channel Traffic = true
is_channel Ending = true

abbrev pub code : Option ℕ → ℕ
code None = 0
code (Some n) = n + 1

pub one_code : (a b : Option ℕ) → code a ≡ code b → a ≡ b
one_code None None e = refl
one_code None (Some n) e = absurd (omega (arith, e))
one_code (Some n) None e = absurd (omega (arith, e))
one_code (Some n) (Some k) e = let same : n ≡ k = omega (arith, e) in ap (λ j. Some j) same

-- the entries of a table are the codes of numbers
pub record Tabled (table : List ℕ) (lasts : Channel → Option ℕ) : Type 0 where
  pub size : length table ≡ 1668
  pub each : (c : Channel) → is_channel c ≡ true → slice_index table (channel_number c) ≡ code (lasts c)

pub tabled_none : (lasts : Channel → Option ℕ) → ((c : Channel) → lasts c ≡ None) → Tabled none_changed lasts
tabled_none lasts none = record {
  size = let zero : ℕ = 0 in length-replicate 1668 zero;
  each = λ c is. on c is ∙ ap code (sym (none c));
} where
  on : (c : Channel) → is_channel c ≡ true → slice_index none_changed (channel_number c) ≡ 0
  on (Word p) is = let lt = number_below p is in get_or-replicate 1668 (place_number p) 0 0 (omega (arith, lt))
  on Data is = get_or-replicate 1668 641 0 0 (omega arith)
  on (Frame part) is = let lt : part < 1024 = grind (arith, nat_tests, is) in get_or-replicate 1668 (644 + part) 0 0 (omega (arith, lt))
  on Traffic is = get_or-replicate 1668 642 0 0 (omega arith)
  on Ending is = get_or-replicate 1668 643 0 0 (omega arith)

-- ---- one entry is put

abbrev pub hits : Option ℕ → ℕ → Bool
hits o k = option_map_or (λ j. j == k) o false

put_long : (table : List ℕ) (o : Option ℕ) (v : ℕ) → length (put table o v) ≡ length table
put_long table None v = refl
put_long table (Some k) v = length-set table k v

put_index : (table : List ℕ) (o : Option ℕ) (v k : ℕ) → ((j : ℕ) → o ≡ Some j → j < length table) → slice_index (put table o v) k ≡ (if hits o k then v else slice_index table k)
put_index table None v k within = refl
put_index table (Some j) v k within = either (j == k)
    (λ same.
    let at : j ≡ k = grind (arith, nat_tests, same) in
    rw same (subst (λ i. slice_index (slice_set table j v) i ≡ v) at (get_or-set_same table j v 0 (within j refl))))
    (λ away.
    let other : k ≢ j = λ e. let yes_same : (j == k) ≡ true = grind (arith, nat_tests, e) in absurd cc in
    rw away (get_or-set_other table j k v 0 other))

so_within : (b : Bool) (k n : ℕ) → k < n → (j : ℕ) → if_so b k ≡ Some j → j < n
so_within true k n lt j e = let same : k ≡ j = cc in omega (arith, same, lt)
so_within false k n lt j e = absurd cc

hits_so : (b : Bool) (k : ℕ) → hits (if_so b k) k ≡ b
hits_so true k = let same : (k == k) ≡ true = grind (arith, nat_tests) in same
hits_so false k = refl

hits_not : (b : Bool) (k j : ℕ) → (k == j) ≡ false → hits (if_so b k) j ≡ false
hits_not true k j e = e
hits_not false k j e = refl

module _ (m : Machine) (part : ℕ) (table : List ℕ) (n : ℕ) (x : Item) (range : InRange m x) (size : length table ≡ 1668) (few : part < 1024) where
  pub o : Option ℕ
  o = option_map place_number (place_written m (target_of_item x))

  pub d : Option ℕ
  d = if_so (starts m stores_data (target_of_item x)) 641

  pub f : Option ℕ
  f = if_so (starts m stores_frame (target_of_item x)) (644 + part)

  pub t : Option ℕ
  t = if_so (starts m passes_words (target_of_item x)) 642

  pub z : Option ℕ
  z = if_so (is_control x) 643

  o_within : (j : ℕ) → o ≡ Some j → j < 1668
  unfolding o
  o_within j e = on (place_written m (target_of_item x)) refl e where
    on : (p : Option Place) → place_written m (target_of_item x) ≡ p → option_map place_number p ≡ Some j → j < 1668
    on None is e = absurd cc
    on (Some p) is e = let same : place_number p ≡ j = cc in let lt = number_below p (range.target p is) in omega (arith, same, lt)

  -- each entry after the item
  pub passed_index : (k : ℕ) → slice_index (passed m part table n x) k
      ≡ (if hits z k then n + 1 else if hits t k then n + 1 else if hits f k then n + 1 else if hits d k then n + 1 else if hits o k then n + 1 else slice_index table k)
  unfolding passed o d f t z
  passed_index k =
      let one : List ℕ = put table o (n + 1) in
      let two : List ℕ = put one d (n + 1) in
      let three : List ℕ = put two f (n + 1) in
      let four : List ℕ = put three t (n + 1) in
      let size_one : length one ≡ 1668 = put_long table o (n + 1) ∙ size in
      let size_two : length two ≡ 1668 = put_long one d (n + 1) ∙ size_one in
      let size_three : length three ≡ 1668 = put_long two f (n + 1) ∙ size_two in
      let size_four : length four ≡ 1668 = put_long three t (n + 1) ∙ size_three in
      put_index four z (n + 1) k (λ j e. let lt = so_within (is_control x) 643 1668 (omega arith) j e in omega (arith, lt, size_four))
      ∙ ap (λ e. if hits z k then n + 1 else e) (put_index three t (n + 1) k (λ j e. let lt = so_within (starts m passes_words (target_of_item x)) 642 1668 (omega arith) j e in omega (arith, lt, size_three)))
      ∙ ap (λ e. if hits z k then n + 1 else if hits t k then n + 1 else e) (put_index two f (n + 1) k (λ j e. let lt = so_within (starts m stores_frame (target_of_item x)) (644 + part) 1668 (omega (arith, few)) j e in omega (arith, lt, size_two)))
      ∙ ap (λ e. if hits z k then n + 1 else if hits t k then n + 1 else if hits f k then n + 1 else e) (put_index one d (n + 1) k (λ j e. let lt = so_within (starts m stores_data (target_of_item x)) 641 1668 (omega arith) j e in omega (arith, lt, size_one)))
      ∙ ap (λ e. if hits z k then n + 1 else if hits t k then n + 1 else if hits f k then n + 1 else if hits d k then n + 1 else e) (put_index table o (n + 1) k (λ j e. let lt = o_within j e in omega (arith, lt, size)))

  pub passed_long : length (passed m part table n x) ≡ 1668
  unfolding passed
  passed_long =
      put_long _ (if_so (is_control x) 643) (n + 1) ∙ put_long _ (if_so (starts m passes_words (target_of_item x)) 642) (n + 1)
      ∙ put_long _ (if_so (starts m stores_frame (target_of_item x)) (644 + part)) (n + 1) ∙ put_long _ (if_so (starts m stores_data (target_of_item x)) 641) (n + 1)
      ∙ put_long table (option_map place_number (place_written m (target_of_item x))) (n + 1) ∙ size

-- ---- which entries an item changes

numbers_equal : (w p : Place) → is_place w ≡ true → is_place p ≡ true → (place_number w == place_number p) ≡ same_place w p
numbers_equal w p a b = either (same_place w p)
    (λ same. rw (same_is w p same) (self_equal (place_number p) ∙ sym (same_self p)))
    (λ away. either (place_number w == place_number p)
    (λ equal. let number : place_number w ≡ place_number p = grind (arith, nat_tests, equal) in let clash = one_place w p a b number in absurd cc)
    (λ differ. differ ∙ sym away))

hits_place : (q : Option Place) (p : Place) → ((w : Place) → q ≡ Some w → is_place w ≡ true) → is_place p ≡ true → hits (option_map place_number q) (place_number p) ≡ is_at p q
hits_place None p within is = refl
hits_place (Some w) p within is = numbers_equal w p (within w refl) is

misses : (q : Option Place) (k : ℕ) → ((w : Place) → q ≡ Some w → is_place w ≡ true) → 641 ≤ k → hits (option_map place_number q) k ≡ false
misses None k within le = refl
misses (Some w) k within le = let lt = number_below w (within w refl) in grind (arith, nat_tests, lt, le)

late : (b : Bool) (k : ℕ) (p : Place) → is_place p ≡ true → 641 ≤ k → hits (if_so b k) (place_number p) ≡ false
late true k p is le = let lt = number_below p is in grind (arith, nat_tests, lt, le)
late false k p is le = refl

chosen : (a : Bool) (n k : ℕ) (table : List ℕ) (before : Option ℕ) → slice_index table k ≡ code before → (if a then n + 1 else slice_index table k) ≡ code (if a then Some n else before)
chosen true n k table before e = refl
chosen false n k table before e = e

part_equal : (part k : ℕ) → ((644 + part) == (644 + k)) ≡ (part == k)
part_equal part k = either (part == k)
    (λ same. let e : part ≡ k = grind (arith, nat_tests, same) in rw same (ap (λ j. (644 + part) == (644 + j)) (sym e) ∙ self_equal (644 + part)))
    (λ away.
    let other : part ≢ k = λ e. let yes_same : (part == k) ≡ true = grind (arith, nat_tests, e) in absurd cc in
    let differ : ((644 + part) == (644 + k)) ≡ false = grind (arith, nat_tests, other) in differ ∙ sym away)

hits_part : (b : Bool) (part k : ℕ) → hits (if_so b (644 + part)) (644 + k) ≡ b && part == k
hits_part true part k = part_equal part k
hits_part false part k = refl

part_misses : (b : Bool) (part k : ℕ) → k < 644 → hits (if_so b (644 + part)) k ≡ false
part_misses true part k lt = grind (arith, nat_tests, lt)
part_misses false part k lt = refl

misses_part : (b : Bool) (j part : ℕ) → j < 644 → hits (if_so b j) (644 + part) ≡ false
misses_part true j part lt = grind (arith, nat_tests, lt)
misses_part false j part lt = refl

-- the table after an item says which item last changed each channel
pub passed_tabled : (m : Machine) (v : Division) (table : List ℕ) (n : ℕ) (x : Item) (lasts later : Channel → Option ℕ) → InRange m x → part_of v n < 1024
    → ((c : Channel) → later c ≡ (if alters m v c (n, x) then Some n else lasts c))
    → Tabled table lasts → Tabled (passed m (part_of v n) table n x) later
unfolding o d f t z
passed_tabled m v table n x lasts later range few is_later tab = record {
  size = passed_long m (part_of v n) table n x range tab.size few;
  each = λ c is. passed_index m (part_of v n) table n x range tab.size few (channel_number c) ∙ on c is ∙ chosen (alters m v c (n, x)) n (channel_number c) table (lasts c) (tab.each c is) ∙ ap code (sym (is_later c));
} where
  on : (c : Channel) → is_channel c ≡ true
      → (if hits (z m (part_of v n) table n x range tab.size few) (channel_number c) then n + 1 else if hits (t m (part_of v n) table n x range tab.size few) (channel_number c) then n + 1 else if hits (f m (part_of v n) table n x range tab.size few) (channel_number c) then n + 1
      else if hits (d m (part_of v n) table n x range tab.size few) (channel_number c) then n + 1 else if hits (o m (part_of v n) table n x range tab.size few) (channel_number c) then n + 1 else slice_index table (channel_number c))
      ≡ (if alters m v c (n, x) then n + 1 else slice_index table (channel_number c))
  on (Word p) is = rw (
    late (is_control x) 643 p is (omega arith),
    late (starts m passes_words (target_of_item x)) 642 p is (omega arith),
    late (starts m stores_frame (target_of_item x)) (644 + part_of v n) p is (omega arith),
    late (starts m stores_data (target_of_item x)) 641 p is (omega arith),
    hits_place (place_written m (target_of_item x)) p range.target is,
  ) refl
  on Data is = rw (
    hits_not (is_control x) 643 641 refl,
    hits_not (starts m passes_words (target_of_item x)) 642 641 refl,
    part_misses (starts m stores_frame (target_of_item x)) (part_of v n) 641 (omega arith),
    hits_so (starts m stores_data (target_of_item x)) 641,
    misses (place_written m (target_of_item x)) 641 range.target (omega arith),
  ) refl
  on (Frame k) is = rw (
    misses_part (is_control x) 643 k (omega arith),
    misses_part (starts m passes_words (target_of_item x)) 642 k (omega arith),
    hits_part (starts m stores_frame (target_of_item x)) (part_of v n) k,
    misses_part (starts m stores_data (target_of_item x)) 641 k (omega arith),
    misses (place_written m (target_of_item x)) (644 + k) range.target (omega arith),
  ) refl
  on Traffic is = rw (
    hits_not (is_control x) 643 642 refl,
    hits_so (starts m passes_words (target_of_item x)) 642,
    part_misses (starts m stores_frame (target_of_item x)) (part_of v n) 642 (omega arith),
    hits_not (starts m stores_data (target_of_item x)) 641 642 refl,
    misses (place_written m (target_of_item x)) 642 range.target (omega arith),
  ) refl
  on Ending is = rw (
    hits_so (is_control x) 643,
    hits_not (starts m passes_words (target_of_item x)) 642 643 refl,
    part_misses (starts m stores_frame (target_of_item x)) (part_of v n) 643 (omega arith),
    hits_not (starts m stores_data (target_of_item x)) 641 643 refl,
    misses (place_written m (target_of_item x)) 643 range.target (omega arith),
  ) refl
