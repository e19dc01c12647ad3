-- Numbers that agree with the rows of a list are an order of its items.
use Rattle.std.proofs.Common.{◌≡◌, ℕ, zero, suc, ◌+◌, ◌<◌, Bool, true, false, List, [], ◌∷◌, length, replicate, Option, Some, None, refl, sym, ap, subst, arith, ◌∙◌}
use Rattle.std.specs.Prelude.{if◌then◌else◌, ◌==◌, ◌&&◌, ◌||◌, not, map, slice_get, slice_index, slice_set}
use Rattle.std.specs.Option.{option_map_or}
use Rattle.std.specs.List.{list_all}
use Rattle.std.proofs.lemmas.Bool.{and_parts, not-true, or_parts}
use Rattle.std.proofs.lemmas.Bool.Decides.{nat_tests}
use Rattle.tta_reorder.specs.Cited.{Machine, KeptReg, Item, target_of_item, is_place}
use Rattle.tta_moves.proofs.Places.{either}
use Rattle.tta_reorder.specs.declared.rows.Found.{Found}
use Rattle.tta_reorder.specs.Channels.{Channel, Frame, Division, part_of, starts, stores_frame, alters}
use Rattle.tta_reorder.specs.Orders.{Numbered, picked, last, last_before, AreDrawn, AreUnmarked}
use Rattle.tta_reorder.specs.Rows.{none_changed, found, same_found, passed, rows_from, table_after, table_by, agrees, same_ends, same_parts}
use Rattle.tta_reorder.proofs.Tables.{Tabled, tabled_none, passed_tabled}
use Rattle.tta_reorder.proofs.Agreeing.{Ranged, found_same, ends_same, part_by}

-- each item of a list touches places of the machine
abbrev pub AllRanged : Machine → List Item → Type 0
AllRanged m items = (n : ℕ) (x : Item) → slice_get items n ≡ Some x → Ranged m x

module _ (m : Machine) (d : Division) (items : List Item) (ranged : AllRanged m items) (few : (n : ℕ) → part_of d n < 1024) where
  -- what was last changed before the item of a number
  abbrev pub old : ℕ → Channel → Option ℕ
  old n c = last_before m d c items n

  -- the rest of the list from a number on
  pub record From (k : ℕ) (xs : List Item) : Type 0 where
    pub at : (n : ℕ) → slice_get items (k + n) ≡ slice_get xs n

  from_head : (k : ℕ) (x : Item) (xs : List Item) → From k (x ∷ xs) → slice_get items k ≡ Some x
  from_head k x xs f = let e : k + 0 ≡ k = omega arith in subst (λ n. slice_get items n ≡ Some x) e (f.at 0)

  from_tail : (k : ℕ) (x : Item) (xs : List Item) → From k (x ∷ xs) → From (k + 1) xs
  from_tail k x xs f = record { at = λ n. let e : k + suc n ≡ (k + 1) + n = omega arith in subst (λ j. slice_get items j ≡ slice_get xs n) e (f.at (suc n)) }

  old_later : (k : ℕ) (x : Item) → slice_get items k ≡ Some x → (c : Channel) → old (k + 1) c ≡ (if alters m d c (k, x) then Some k else old k c)
  old_later k x e c =
      let next : k + 1 ≡ suc k = omega arith in
      ap (λ n. last_before m d c items n) next ∙ ap (λ (o : Option Item). if option_map_or (λ x. alters m d c (k, x)) o false then Some k else old k c) e

  old_tabled : (table : List ℕ) (k : ℕ) (x : Item) → slice_get items k ≡ Some x → Tabled table (old k) → Tabled (passed m (part_of d k) table k x) (old (k + 1))
  old_tabled table k x e t = passed_tabled m d table k x (old k) (old (k + 1)) (ranged k x e).range (few k) (old_later k x e) t

  -- the row of an item is what it finds
  pub record IsRow (row : Option Found) (n : ℕ) (x : Item) : Type 0 where
    pub table : List ℕ
    pub is : row ≡ Some (found m (part_of d n) table x)
    pub tabled : Tabled table (old n)

  rows_are : (table : List ℕ) (k : ℕ) (xs : List Item) → From k xs → Tabled table (old k) → (n : ℕ) (x : Item) → slice_get xs n ≡ Some x → IsRow (slice_get (rows_from m d.parts table k xs) n) (k + n) x
  rows_are table k [] f t n x e = absurd cc
  rows_are table k (y ∷ xs) f t zero x e =
      let same : y ≡ x = cc in
      let number : k + 0 ≡ k = omega arith in
      record {
        table = table;
        is = ap (λ (z : Item). Some (found m (part_of d k) table z)) same ∙ ap (λ j. Some (found m (part_of d j) table x)) (sym number);
        tabled = subst (λ n. Tabled table (old n)) (sym number) t;
      }
  rows_are table k (y ∷ xs) f t (suc n) x e =
      let r = rows_are (passed m (part_of d k) table k y) (k + 1) xs (from_tail k y xs f) (old_tabled table k y (from_head k y xs f) t) n x e in
      let number : (k + 1) + n ≡ k + suc n = omega arith in
      record {
        table = r.table;
        is = r.is ∙ ap (λ j. Some (found m (part_of d j) r.table x)) number;
        tabled = subst (λ j. Tabled r.table (old j)) number r.tabled;
      }

  table_is : (table : List ℕ) (k : ℕ) (xs : List Item) → From k xs → Tabled table (old k) → Tabled (table_after m d.parts table k xs) (old (k + length xs))
  table_is table k [] f t = let number : k + 0 ≡ k = omega arith in subst (λ n. Tabled table (old n)) (sym number) t
  table_is table k (x ∷ xs) f t =
      let number : (k + 1) + length xs ≡ k + length (x ∷ xs) = omega arith in
      subst (λ n. Tabled (table_after m d.parts (passed m (part_of d k) table k x) (k + 1) xs) (old n)) number (table_is (passed m (part_of d k) table k x) (k + 1) xs (from_tail k x xs f) (old_tabled table k x (from_head k x xs f) t))

  start : Tabled none_changed (old 0)
  start = tabled_none (old 0) (λ c. refl)

  from_start : From 0 items
  from_start = record { at = λ n. let e : 0 + n ≡ n = omega arith in ap (λ j. slice_get items j) e }

  -- the rows and the last table of the whole list
  abbrev pub rows : List Found
  rows = rows_from m d.parts none_changed 0 items

  abbrev pub end : List ℕ
  end = table_after m d.parts none_changed 0 items

  row_at : (n : ℕ) (x : Item) → slice_get items n ≡ Some x → IsRow (slice_get rows n) n x
  row_at n x e = let number : 0 + n ≡ n = omega arith in subst (λ j. IsRow (slice_get rows n) j x) number (rows_are none_changed 0 items from_start start n x e)

  end_tabled : Tabled end (old (length items))
  end_tabled = let number : 0 + length items ≡ length items = omega arith in subst (λ n. Tabled end (old n)) number (table_is none_changed 0 items from_start start)

  -- ---- parts of the frame space

  -- whether an item stores into a part, where the first has the number n
  abbrev stores_into : (part n : ℕ) → List Item → Bool
  stores_into part n [] = false
  stores_into part n (x ∷ xs) = alters m d (Frame part) (n, x) || stores_into part (n + 1) xs

  none_from : (part k : ℕ) (xs : List Item) → stores_into part k xs ≡ false → (n : ℕ) (x : Item) → slice_get xs n ≡ Some x → alters m d (Frame part) (k + n, x) ≡ false
  none_from part k [] none n x e = absurd cc
  none_from part k (y ∷ xs) none zero x e =
      let same : y ≡ x = cc in
      let number : k + 0 ≡ k = omega arith in
      ap (λ j. alters m d (Frame part) (j, x)) number ∙ ap (λ (z : Item). alters m d (Frame part) (k, z)) (sym same) ∙ (or_parts (alters m d (Frame part) (k, y)) _ none).0
  none_from part k (y ∷ xs) none (suc n) x e =
      let number : k + suc n ≡ (k + 1) + n = omega arith in
      ap (λ j. alters m d (Frame part) (j, x)) number ∙ none_from part (k + 1) xs (or_parts (alters m d (Frame part) (k, y)) _ none).1 n x e

  none_at : (part : ℕ) → stores_into part 0 items ≡ false → (n : ℕ) (x : Item) → slice_get items n ≡ Some x → alters m d (Frame part) (n, x) ≡ false
  none_at part none n x e =
      let number : 0 + n ≡ n = omega arith in
      ap (λ j. alters m d (Frame part) (j, x)) (sym number) ∙ none_from part 0 items none n x e

  old_none : (part : ℕ) → stores_into part 0 items ≡ false → (n : ℕ) → old n (Frame part) ≡ None
  old_none part none zero = refl
  old_none part none (suc n) = on (slice_get items n) refl (old_none part none n) where
    on : (o : Option Item) → slice_get items n ≡ o → old n (Frame part) ≡ None → (if option_map_or (λ x. alters m d (Frame part) (n, x)) o false then Some n else old n (Frame part)) ≡ None
    on None is e = e
    on (Some x) is e = rw (none_at part none n x is) e

  -- where an item does, the tables are compared there
  some_same_part : (part k : ℕ) (xs : List Item) (a b : List ℕ) → stores_into part k xs ≡ true → same_parts m d.parts a b k xs ≡ true
      → (part < 1024) × ((slice_index a (644 + part) == slice_index b (644 + part)) ≡ true)
  some_same_part part k [] a b some same = absurd cc
  some_same_part part k (x ∷ xs) a b some same =
      let two = and_parts (not (starts m stores_frame (target_of_item x)) || slice_index a (644 + part_of d k) == slice_index b (644 + part_of d k)) _ same in
      either (alters m d (Frame part) (k, x))
      (λ here.
      let both = and_parts (starts m stores_frame (target_of_item x)) (part_of d k == part) here in
      let number : part_of d k ≡ part = grind (arith, nat_tests, both.1) in
      let first : (slice_index a (644 + part_of d k) == slice_index b (644 + part_of d k)) ≡ true = rw both.0 at two.0 in
      subst (λ j. (j < 1024) × ((slice_index a (644 + j) == slice_index b (644 + j)) ≡ true)) number (few k, first))
      (λ away. some_same_part part (k + 1) xs a b (rw away at some) two.1)

  -- ---- the numbers

  some_free : (o : Option Bool) → option_map_or (λ b. not b) o false ≡ true → o ≡ Some false
  some_free None e = absurd cc
  some_free (Some b) e = ap (λ (c : Bool). Some c) (not-true b e)

  same_row : (o : Option Found) (f g : Found) → o ≡ Some g → option_map_or (λ row. same_found f row) o false ≡ true → same_found f g ≡ true
  same_row o f g is e = rw is at e

  -- two tables have the same entries for all that the next list finds
  abbrev SameEnds : (live : List (ℕ × ℕ)) → List ℕ → Type 0
  SameEnds live table = (same_ends live table end ≡ true) × (same_parts m d.parts table end 0 items ≡ true)

  -- no item of some stores into a part into which no item of the list does
  abbrev StoresNoMore : Numbered → Type 0
  StoresNoMore front = (part : ℕ) → stores_into part 0 items ≡ false → last m d (Frame part) front ≡ None

  agreed : (live : List (ℕ × ℕ)) → list_all (λ r. is_place (KeptReg r.0 r.1)) live ≡ true → (front : Numbered) (ns table : List ℕ) (marks : List Bool) → agrees m d.parts items rows table marks ns ≡ true
      → SameEnds live (table_by m d.parts items table ns) → StoresNoMore front → Tabled table (λ c. last m d c front) → AreDrawn m d live items front (picked items ns) × AreUnmarked marks (picked items ns)
  agreed live within front [] table marks e s stored t = (ends_same m table end (λ c. last m d c front) (old (length items)) t end_tabled live within s.0 frames, tt) where
    frames : (part : ℕ) → last m d (Frame part) front ≡ old (length items) (Frame part)
    frames part = either (stores_into part 0 items)
        (λ some. let two = some_same_part part 0 items table end some s.1 in part_by m table end (λ c. last m d c front) (old (length items)) t end_tabled part two.0 two.1)
        (λ none. stored part none ∙ sym (old_none part none (length items)))
  agreed live within front (n ∷ ns) table marks e s stored t = on (slice_get items n) refl e s (λ x. agreed live within ((n, x) ∷ front) ns) where
    on : (o : Option Item) → slice_get items n ≡ o
        → option_map_or (λ x. option_map_or (λ row. same_found (found m (part_of d n) table x) row) (slice_get rows n) false
        && (option_map_or (λ b. not b) (slice_get marks n) false && agrees m d.parts items rows (passed m (part_of d n) table n x) (slice_set marks n true) ns)) o false ≡ true
        → SameEnds live (table_by m d.parts items (option_map_or (λ x. passed m (part_of d n) table n x) o table) ns)
        → ((x : Item) (later : List ℕ) (marked : List Bool) → agrees m d.parts items rows later marked ns ≡ true → SameEnds live (table_by m d.parts items later ns) → StoresNoMore ((n, x) ∷ front)
        → Tabled later (λ c. last m d c ((n, x) ∷ front))
        → AreDrawn m d live items ((n, x) ∷ front) (picked items ns) × AreUnmarked marked (picked items ns))
        → let p : Numbered = option_map_or (λ x. (n, x) ∷ picked items ns) o (picked items ns) in AreDrawn m d live items front p × AreUnmarked marks p
    on None is e s more = absurd cc
    on (Some x) is e s more =
        let one = and_parts (option_map_or (λ row. same_found (found m (part_of d n) table x) row) (slice_get rows n) false) _ e in
        let two = and_parts (option_map_or (λ b. not b) (slice_get marks n) false) _ one.1 in
        let row = row_at n x is in
        let same = same_row (slice_get rows n) (found m (part_of d n) table x) (found m (part_of d n) row.table x) row.is one.0 in
        let r = ranged n x is in
        let rest = more x (passed m (part_of d n) table n x) (slice_set marks n true) two.1 s (λ part none. rw (none_at part none n x is) (stored part none)) (passed_tabled m d table n x (λ c. last m d c front) (λ c. last m d c ((n, x) ∷ front)) r.range (few n) (λ c. refl) t) in (
          (record { there = is; same = found_same m table row.table (λ c. last m d c front) (old n) t row.tabled d n x (few n) r same }, rest.0),
          (some_free (slice_get marks n) two.0, rest.1),
        )

  -- numbers that agree are those of the items that are picked
  pub numbers_are : (ns table : List ℕ) (marks : List Bool) → agrees m d.parts items rows table marks ns ≡ true → map (λ y. y.0) (picked items ns) ≡ ns
  numbers_are [] table marks e = refl
  numbers_are (n ∷ ns) table marks e = on (slice_get items n) refl e (numbers_are ns) where
    on : (o : Option Item) → slice_get items n ≡ o
        → option_map_or (λ x. option_map_or (λ row. same_found (found m (part_of d n) table x) row) (slice_get rows n) false
        && (option_map_or (λ b. not b) (slice_get marks n) false && agrees m d.parts items rows (passed m (part_of d n) table n x) (slice_set marks n true) ns)) o false ≡ true
        → ((later : List ℕ) (marked : List Bool) → agrees m d.parts items rows later marked ns ≡ true → map (λ y. y.0) (picked items ns) ≡ ns)
        → map (λ y. y.0) (option_map_or (λ x. (n, x) ∷ picked items ns) o (picked items ns)) ≡ n ∷ ns
    on None is e more = absurd cc
    on (Some x) is e more =
        let one = and_parts (option_map_or (λ row. same_found (found m (part_of d n) table x) row) (slice_get rows n) false) _ e in
        let two = and_parts (option_map_or (λ b. not b) (slice_get marks n) false) _ one.1 in
        ap (λ l. n ∷ l) (more (passed m (part_of d n) table n x) (slice_set marks n true) two.1)

  -- numbers that agree from the start on are an order
  pub agree_is : (live : List (ℕ × ℕ)) → list_all (λ r. is_place (KeptReg r.0 r.1)) live ≡ true → (ns : List ℕ) → agrees m d.parts items rows none_changed (replicate (length items) false) ns ≡ true
      → SameEnds live (table_by m d.parts items none_changed ns) → AreDrawn m d live items [] (picked items ns) × AreUnmarked (replicate (length items) false) (picked items ns)
  agree_is live within ns e s = agreed live within [] ns none_changed (replicate (length items) false) e s (λ part none. refl) (tabled_none (λ c. last m d c []) (λ c. refl))
