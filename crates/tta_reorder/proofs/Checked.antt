-- Numbers are checked, and their items picked, one by one.
use Rattle.std.proofs.Common.{◌≡◌, ℕ, ◌+◌, ◌<◌, ◌≤◌, Bool, true, false, List, [], ◌∷◌, ◌++◌, length, drop, get_or, replicate, Option, Some, None, refl, sym, ap, ◌∙◌, append_assoc, append-nil}
use Rattle.std.specs.Prelude.{not, slice_get, slice_set, slice_index}
use Rattle.std.specs.Option.{option_map_or}
use Rattle.std.proofs.lemmas.List.{drop_more, drop_all}
use Rattle.tta_reorder.specs.Cited.{Machine, Item}
use Rattle.tta_reorder.specs.declared.rows.Found.{Found}
use Rattle.tta_reorder.specs.Orders.{bare, picked}
use Rattle.tta_reorder.specs.Rows.{none_changed, found, same_found, passed, table_by, agrees}

-- The numbers agree from the start on where the rest of them agrees from here on, and the table after all of them is that after
-- the rest.
pub record AgreesFrom (m : Machine) (parts : List ℕ) (items : List Item) (rows : List Found) (numbers table : List ℕ) (marks : List Bool) (i : ℕ) : Type 0 where
  pub all : agrees m parts items rows table marks (drop i numbers) ≡ true → agrees m parts items rows none_changed (replicate (length items) false) numbers ≡ true
  pub end : table_by m parts items table (drop i numbers) ≡ table_by m parts items none_changed numbers

pub agree_begin : (m : Machine) (parts : List ℕ) (items : List Item) (rows : List Found) (numbers table : List ℕ) (marks : List Bool) → table ≡ none_changed → marks ≡ replicate (length items) false
    → AgreesFrom m parts items rows numbers table marks 0
agree_begin m parts items rows numbers table marks e f = record { all = λ h. rw (e, f) at h; end = ap (λ t. table_by m parts items t numbers) e }

pub agree_next : (m : Machine) (parts : List ℕ) (items : List Item) (rows : List Found) (numbers table later : List ℕ) (marks marked : List Bool) (i n : ℕ) (x : Item)
    → i < length numbers → get_or numbers i 0 ≡ n → slice_get items n ≡ Some x
    → option_map_or (λ row. same_found (found m (slice_index parts n) table x) row) (slice_get rows n) false ≡ true → option_map_or (λ b. not b) (slice_get marks n) false ≡ true
    → later ≡ passed m (slice_index parts n) table n x → marked ≡ slice_set marks n true → AgreesFrom m parts items rows numbers table marks i → AgreesFrom m parts items rows numbers later marked (i + 1)
agree_next m parts items rows numbers table later marks marked i n x lt is there finds free e f a = record { all = λ h. a.all (on h); end = ends } where
  split : drop i numbers ≡ n ∷ drop (i + 1) numbers
  split = drop_more numbers i 0 lt ∙ ap (λ k. k ∷ drop (i + 1) numbers) is

  on : agrees m parts items rows later marked (drop (i + 1) numbers) ≡ true → agrees m parts items rows table marks (drop i numbers) ≡ true
  on h =
      let rest : agrees m parts items rows (passed m (slice_index parts n) table n x) (slice_set marks n true) (drop (i + 1) numbers) ≡ true = rw (e, f) at h in
      ap (λ l. agrees m parts items rows table marks l) split ∙ rw (there, finds, free) rest

  ends : table_by m parts items later (drop (i + 1) numbers) ≡ table_by m parts items none_changed numbers
  ends =
      ap (λ t. table_by m parts items t (drop (i + 1) numbers)) e
      ∙ ap (λ (o : Option Item). table_by m parts items (option_map_or (λ x. passed m (slice_index parts n) table n x) o table) (drop (i + 1) numbers)) (sym there)
      ∙ ap (λ l. table_by m parts items table l) (sym split) ∙ a.end

pub agree_all : (m : Machine) (parts : List ℕ) (items : List Item) (rows : List Found) (numbers table : List ℕ) (marks : List Bool) (i : ℕ) → AgreesFrom m parts items rows numbers table marks i → length numbers ≤ i
    → agrees m parts items rows none_changed (replicate (length items) false) numbers ≡ true
agree_all m parts items rows numbers table marks i a le = a.all (ap (λ l. agrees m parts items rows table marks l) (drop_all i numbers le))

pub agree_end : (m : Machine) (parts : List ℕ) (items : List Item) (rows : List Found) (numbers table : List ℕ) (marks : List Bool) (i : ℕ) → AgreesFrom m parts items rows numbers table marks i → length numbers ≤ i
    → table ≡ table_by m parts items none_changed numbers
agree_end m parts items rows numbers table marks i a le = ap (λ l. table_by m parts items table l) (sym (drop_all i numbers le)) ∙ a.end

-- the items of the first numbers are there
pub record PickedTo (items : List Item) (numbers : List ℕ) (out : List Item) (i : ℕ) : Type 0 where
  pub all : out ++ bare (picked items (drop i numbers)) ≡ bare (picked items numbers)

pub pick_next : (items : List Item) (numbers : List ℕ) (out : List Item) (i n : ℕ) (x : Item) → i < length numbers → get_or numbers i 0 ≡ n → slice_get items n ≡ Some x → PickedTo items numbers out i
    → PickedTo items numbers (out ++ x ∷ []) (i + 1)
pick_next items numbers out i n x lt is there p =
    let split : drop i numbers ≡ n ∷ drop (i + 1) numbers = drop_more numbers i 0 lt ∙ ap (λ k. k ∷ drop (i + 1) numbers) is in
    let one : bare (picked items (n ∷ drop (i + 1) numbers)) ≡ x ∷ bare (picked items (drop (i + 1) numbers)) = rw there refl in
    record { all = append_assoc out (x ∷ []) (bare (picked items (drop (i + 1) numbers))) ∙ ap (λ (l : List Item). out ++ l) (sym one) ∙ ap (λ l. out ++ bare (picked items l)) (sym split) ∙ p.all }

pub pick_none : (items : List Item) (numbers : List ℕ) (out : List Item) (i n : ℕ) → i < length numbers → get_or numbers i 0 ≡ n → slice_get items n ≡ None → PickedTo items numbers out i
    → PickedTo items numbers out (i + 1)
pick_none items numbers out i n lt is there p =
    let split : drop i numbers ≡ n ∷ drop (i + 1) numbers = drop_more numbers i 0 lt ∙ ap (λ k. k ∷ drop (i + 1) numbers) is in
    let one : bare (picked items (n ∷ drop (i + 1) numbers)) ≡ bare (picked items (drop (i + 1) numbers)) = rw there refl in
    record { all = ap (λ (l : List Item). out ++ l) (sym one) ∙ ap (λ l. out ++ bare (picked items l)) (sym split) ∙ p.all }

pub pick_done : (items : List Item) (numbers : List ℕ) (out : List Item) (i : ℕ) → PickedTo items numbers out i → length numbers ≤ i → out ≡ bare (picked items numbers)
pick_done items numbers out i p le = sym (append-nil out) ∙ ap (λ l. out ++ bare (picked items l)) (sym (drop_all i numbers le)) ∙ p.all
