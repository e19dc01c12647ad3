-- Numbers that agree with a list are an order of its items.
use Rattle.std.proofs.Common.{◌≡◌, ℕ, ◌+◌, ◌<◌, Bool, true, false, List, [], ◌∷◌, Option, Some, None, refl, sym, subst, ◌∙◌}
use Rattle.std.specs.Prelude.{if◌then◌else◌, ◌==◌, ◌&&◌, not, option_map, slice_index}
use Rattle.std.specs.Option.{option_map_or}
use Rattle.std.specs.List.{list_all, list_any}
use Rattle.std.proofs.lemmas.Bool.{and_parts, lt-ltb}
use Rattle.tta_reorder.specs.Cited.{GuardRef, Machine, Place, KeptReg, KeptImm, KeptOperand, KeptRa, KeptPort, same_place, Item, guard_of, source_of, target_of_item, place_of_source, guard_place, place_written, is_at, is_control, is_unguarded, place_number, is_place}
use Rattle.tta_moves.proofs.Places.{either}
use Rattle.tta_moves.proofs.InRange.{InRange}
use Rattle.tta_reorder.specs.declared.rows.Found.{Found}
use Rattle.tta_reorder.specs.Channels.{Channel, Word, Data, Frame, Traffic, Ending, Division, part_of, starts, uses_data, uses_frame, passes_words, operand_place, asks, survives}
use Rattle.tta_reorder.specs.Rows.{channel_number, if_so, entry, found, same_found, same_ends}
use Rattle.tta_reorder.proofs.Tables.{is_channel, one_code, Tabled}
use Rattle.tta_arch.proofs.Places.{same_is}
use Rattle.tta_list.proofs.Tests.{equal_is}

-- the places that an item touches are places of the machine
pub record Ranged (m : Machine) (x : Item) : Type 0 where
  pub range : InRange m x
  pub operand : (p : Place) → operand_place m (target_of_item x) ≡ Some p → is_place p ≡ true

-- ---- the same is found, so the same was last changed

module _ (m : Machine) (table other : List ℕ) (lasts others : Channel → Option ℕ) (a : Tabled table lasts) (b : Tabled other others) where
  by_entry : (c : Channel) → is_channel c ≡ true → slice_index table (channel_number c) ≡ slice_index other (channel_number c) → lasts c ≡ others c
  by_entry c is e = one_code (lasts c) (others c) (sym (a.each c is) ∙ e ∙ b.each c is)

  by_place : (q : Option Place) (p : Place) → is_at p q ≡ true → ((w : Place) → q ≡ Some w → is_place w ≡ true)
      → (entry table (option_map place_number q) == entry other (option_map place_number q)) ≡ true → lasts (Word p) ≡ others (Word p)
  by_place None p at within e = absurd cc
  by_place (Some q) p at within e =
      let same = same_is q p at in
      let equal = equal_is _ _ e in
      by_entry (Word p) (subst (λ (w : Place). is_place w ≡ true) same (within q refl)) (subst (λ (w : Place). slice_index table (place_number w) ≡ slice_index other (place_number w)) same equal)

  by_guard : (g : Option GuardRef) (p : Place) → option_map_or (λ g. same_place (guard_place g) p) g false ≡ true → ((w : GuardRef) → g ≡ Some w → is_place (guard_place w) ≡ true)
      → (entry table (option_map (λ g. place_number (guard_place g)) g) == entry other (option_map (λ g. place_number (guard_place g)) g)) ≡ true → lasts (Word p) ≡ others (Word p)
  by_guard None p at within e = absurd cc
  by_guard (Some g) p at within e =
      let same = same_is (guard_place g) p at in
      let equal = equal_is _ _ e in
      by_entry (Word p) (subst (λ (w : Place). is_place w ≡ true) same (within g refl)) (subst (λ (w : Place). slice_index table (place_number w) ≡ slice_index other (place_number w)) same equal)

  by_so : (t : Bool) (k : ℕ) → t ≡ true → (entry table (if_so t k) == entry other (if_so t k)) ≡ true → slice_index table k ≡ slice_index other k
  by_so true k is e = equal_is _ _ e
  by_so false k is e = absurd cc

  by_own : (q : Option Place) (sure : Bool) (p : Place) → is_at p q && not sure ≡ true → ((w : Place) → q ≡ Some w → is_place w ≡ true)
      → ((if sure then 0 else entry table (option_map place_number q)) == (if sure then 0 else entry other (option_map place_number q))) ≡ true → lasts (Word p) ≡ others (Word p)
  by_own q true p at within e = let no_guard = (and_parts (is_at p q) false at).1 in absurd cc
  by_own q false p at within e = by_place q p (and_parts (is_at p q) true at).0 within e

  pub found_same : (d : Division) (n : ℕ) (x : Item) → part_of d n < 1024 → Ranged m x → same_found (found m (part_of d n) table x) (found m (part_of d n) other x) ≡ true → (c : Channel) → asks m d c (n, x) ≡ true → lasts c ≡ others c
  found_same d n x few r e c asked =
      let one = and_parts _ _ e in
      let two = and_parts _ _ one.1 in
      let three = and_parts _ _ two.1 in
      let four = and_parts _ _ three.1 in
      let five = and_parts _ _ four.1 in
      let six = and_parts _ _ five.1 in
      let seven = and_parts _ _ six.1 in
      on c asked one.0 two.0 three.0 four.0 five.0 six.0 seven.0 seven.1 where
        x_found : Found
        x_found = found m (part_of d n) table x

        y_found : Found
        y_found = found m (part_of d n) other x

        on : (c : Channel) → asks m d c (n, x) ≡ true
            → ((found m (part_of d n) table x).source == (found m (part_of d n) other x).source) ≡ true → ((found m (part_of d n) table x).guard == (found m (part_of d n) other x).guard) ≡ true → ((found m (part_of d n) table x).operand == (found m (part_of d n) other x).operand) ≡ true
            → ((found m (part_of d n) table x).own == (found m (part_of d n) other x).own) ≡ true → ((found m (part_of d n) table x).memory == (found m (part_of d n) other x).memory) ≡ true → ((found m (part_of d n) table x).frame == (found m (part_of d n) other x).frame) ≡ true
            → ((found m (part_of d n) table x).traffic == (found m (part_of d n) other x).traffic) ≡ true → ((found m (part_of d n) table x).ending == (found m (part_of d n) other x).ending) ≡ true → lasts c ≡ others c
        on Data asked s g o w e f t z = by_entry Data refl (by_so (starts m uses_data (target_of_item x)) 641 asked e)
        on (Frame part) asked s g o w e f t z =
            let two = and_parts (starts m uses_frame (target_of_item x)) (part_of d n == part) asked in
            let same : part_of d n ≡ part = equal_is _ _ two.1 in
            let within : is_channel (Frame (part_of d n)) ≡ true = lt-ltb (part_of d n) 1024 few in
            subst (λ k. lasts (Frame k) ≡ others (Frame k)) same (by_entry (Frame (part_of d n)) within (by_so (starts m uses_frame (target_of_item x)) (644 + part_of d n) two.0 f))
        on Traffic asked s g o w e f t z = by_entry Traffic refl (by_so (starts m passes_words (target_of_item x)) 642 asked t)
        on Ending asked s g o w e f t z = by_entry Ending refl (by_so (is_control x && not (is_unguarded x)) 643 asked z)
        on (Word p) asked s g o w e f t z = either (is_at p (place_of_source (source_of x)))
            (λ at. by_place (place_of_source (source_of x)) p at r.range.source s)
            (λ no_source. either (option_map_or (λ q. same_place (guard_place q) p) (guard_of x) false)
            (λ at. by_guard (guard_of x) p at r.range.guard g)
            (λ no_guard. either (is_at p (operand_place m (target_of_item x)))
            (λ at. by_place (operand_place m (target_of_item x)) p at r.operand o)
            (λ no_operand. by_own (place_written m (target_of_item x)) (is_unguarded x) p (rw (no_source, no_guard, no_operand) at asked) r.range.target w)))

  live_same : (live : List (ℕ × ℕ)) → list_all (λ r. slice_index table (place_number (KeptReg r.0 r.1)) == slice_index other (place_number (KeptReg r.0 r.1))) live ≡ true
      → list_all (λ r. is_place (KeptReg r.0 r.1)) live ≡ true → (file index : ℕ) → list_any (λ r. r.0 == file && r.1 == index) live ≡ true → lasts (Word (KeptReg file index)) ≡ others (Word (KeptReg file index))
  live_same [] e within file index there = absurd cc
  live_same (r ∷ live) e within file index there =
      let two = and_parts (slice_index table (place_number (KeptReg r.0 r.1)) == slice_index other (place_number (KeptReg r.0 r.1))) _ e in
      let both = and_parts (is_place (KeptReg r.0 r.1)) _ within in
      either (r.0 == file && r.1 == index)
      (λ here.
      let same = same_is (KeptReg r.0 r.1) (KeptReg file index) here in
      by_entry (Word (KeptReg file index)) (subst (λ (w : Place). is_place w ≡ true) same both.0)
      (subst (λ (w : Place). slice_index table (place_number w) ≡ slice_index other (place_number w)) same (equal_is _ _ two.0)))
      (λ away. live_same live two.1 both.1 file index (rw away at there))

  pub ends_same : (live : List (ℕ × ℕ)) → list_all (λ r. is_place (KeptReg r.0 r.1)) live ≡ true → same_ends live table other ≡ true
      → ((part : ℕ) → lasts (Frame part) ≡ others (Frame part)) → (c : Channel) → survives live c ≡ true → lasts c ≡ others c
  ends_same live within e frames c s =
      let one = and_parts _ _ e in
      let two = and_parts _ _ one.1 in
      let three = and_parts _ _ two.1 in
      let four = and_parts _ _ three.1 in
      on c s one.0 (equal_is _ _ two.0) (equal_is _ _ three.0) (equal_is _ _ four.0) (equal_is _ _ four.1) where
        on : (c : Channel) → survives live c ≡ true → list_all (λ r. slice_index table (place_number (KeptReg r.0 r.1)) == slice_index other (place_number (KeptReg r.0 r.1))) live ≡ true
            → slice_index table 640 ≡ slice_index other 640 → slice_index table 641 ≡ slice_index other 641 → slice_index table 642 ≡ slice_index other 642
            → slice_index table 643 ≡ slice_index other 643 → lasts c ≡ others c
        on (Word (KeptReg file index)) s l ra f t z = live_same live l within file index s
        on (Word (KeptImm unit index)) s l ra f t z = absurd cc
        on (Word (KeptOperand unit)) s l ra f t z = absurd cc
        on (Word (KeptPort unit)) s l ra f t z = absurd cc
        on (Word KeptRa) s l ra f t z = by_entry (Word KeptRa) refl ra
        on Data s l ra f t z = by_entry Data refl f
        on (Frame part) s l ra f t z = frames part
        on Traffic s l ra f t z = by_entry Traffic refl t
        on Ending s l ra f t z = by_entry Ending refl z

  -- a part of the frame space with the same entry was last changed by the same item
  pub part_by : (part : ℕ) → part < 1024 → (slice_index table (644 + part) == slice_index other (644 + part)) ≡ true → lasts (Frame part) ≡ others (Frame part)
  part_by part lt e = by_entry (Frame part) (lt-ltb part 1024 lt) (equal_is _ _ e)
