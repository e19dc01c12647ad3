-- The rows of a list, item by item.
use Rattle.std.proofs.Common.{◌≡◌, ℕ, ◌+◌, ◌<◌, ◌≤◌, true, List, [], ◌∷◌, ◌++◌, length, drop, get_or, sym, ap, ◌∙◌, append_assoc}
use Rattle.std.specs.Prelude.{slice_index}
use Rattle.std.proofs.lemmas.List.{drop_more, drop_all, append-nil}
use Rattle.tta_reorder.specs.Cited.{Machine, Item}
use Rattle.tta_reorder.specs.declared.rows.Found.{Found}
use Rattle.tta_reorder.specs.Rows.{none_changed, found, passed, rows_from, table_after, same_part, same_parts}

-- the rows of the first n items, and the table after them
pub record RowsTo (m : Machine) (parts : List ℕ) (items : List Item) (table : List ℕ) (rows : List Found) (n : ℕ) : Type 0 where
  pub found : rows ++ rows_from m parts table n (drop n items) ≡ rows_from m parts none_changed 0 items
  pub end : table_after m parts table n (drop n items) ≡ table_after m parts none_changed 0 items

pub rows_begin : (m : Machine) (parts : List ℕ) (items : List Item) (table : List ℕ) → table ≡ none_changed → RowsTo m parts items table [] 0
rows_begin m parts items table e = record { found = ap (λ t. rows_from m parts t 0 items) e; end = ap (λ t. table_after m parts t 0 items) e }

pub rows_next : (m : Machine) (parts : List ℕ) (items : List Item) (table later : List ℕ) (rows more : List Found) (n : ℕ) (x : Item) (row : Found) → n < length items → get_or items n x ≡ x → RowsTo m parts items table rows n
    → row ≡ found m (slice_index parts n) table x → later ≡ passed m (slice_index parts n) table n x → more ≡ rows ++ row ∷ [] → RowsTo m parts items later more (n + 1)
rows_next m parts items table later rows more n x row lt is r e f g =
    let split : drop n items ≡ x ∷ drop (n + 1) items = drop_more items n x lt ∙ ap (λ (y : Item). y ∷ drop (n + 1) items) is in
    record {
      found = ap (λ (l : List Found). l ++ rows_from m parts later (n + 1) (drop (n + 1) items)) g
          ∙ append_assoc rows (row ∷ []) (rows_from m parts later (n + 1) (drop (n + 1) items))
          ∙ ap (λ (y : Found). rows ++ y ∷ rows_from m parts later (n + 1) (drop (n + 1) items)) e
          ∙ ap (λ (t : List ℕ). rows ++ found m (slice_index parts n) table x ∷ rows_from m parts t (n + 1) (drop (n + 1) items)) f
          ∙ ap (λ (l : List Item). rows ++ rows_from m parts table n l) (sym split) ∙ r.found;
      end = ap (λ (t : List ℕ). table_after m parts t (n + 1) (drop (n + 1) items)) f ∙ ap (λ (l : List Item). table_after m parts table n l) (sym split) ∙ r.end;
    }

pub rows_done : (m : Machine) (parts : List ℕ) (items : List Item) (table : List ℕ) (rows : List Found) (n : ℕ) → RowsTo m parts items table rows n → length items ≤ n
    → (rows ≡ rows_from m parts none_changed 0 items) × (table ≡ table_after m parts none_changed 0 items)
rows_done m parts items table rows n r le =
    let none : drop n items ≡ [] = drop_all n items le in (
      sym (append-nil rows) ∙ ap (λ (l : List Item). rows ++ rows_from m parts table n l) (sym none) ∙ r.found,
      ap (λ (l : List Item). table_after m parts table n l) (sym none) ∙ r.end,
    )

-- the parts of the first n items are compared
pub record PartsTo (m : Machine) (parts : List ℕ) (items : List Item) (a b : List ℕ) (n : ℕ) : Type 0 where
  pub all : same_parts m parts a b n (drop n items) ≡ true → same_parts m parts a b 0 items ≡ true

pub parts_begin : (m : Machine) (parts : List ℕ) (items : List Item) (a b : List ℕ) → PartsTo m parts items a b 0
parts_begin m parts items a b = record { all = λ h. h }

pub parts_next : (m : Machine) (parts : List ℕ) (items : List Item) (a b : List ℕ) (n : ℕ) (x : Item) → n < length items → get_or items n x ≡ x
    → same_part m (slice_index parts n) x a b ≡ true → PartsTo m parts items a b n → PartsTo m parts items a b (n + 1)
parts_next m parts items a b n x lt is same s =
    let split : drop n items ≡ x ∷ drop (n + 1) items = drop_more items n x lt ∙ ap (λ (y : Item). y ∷ drop (n + 1) items) is in
    record { all = λ h. s.all (ap (λ (l : List Item). same_parts m parts a b n l) split ∙ rw same h) }

pub parts_done : (m : Machine) (parts : List ℕ) (items : List Item) (a b : List ℕ) (n : ℕ) → PartsTo m parts items a b n → length items ≤ n → same_parts m parts a b 0 items ≡ true
parts_done m parts items a b n s le = s.all (ap (λ (l : List Item). same_parts m parts a b n l) (drop_all n items le))
