-- What a table keeps when an operation is added at its end.
use Rattle.std.proofs.Common.{◌≡◌, ◌<◌, ◌+◌, ◌++◌, ◌∷◌, [], ℕ, List, Some, None, Result, Ok, Err, OnOk, OnErr, true, false, length, get_or, zero, suc, refl, sym, ap, ◌∙◌, arith, length-append}
use Rattle.std.specs.Prelude.{if◌then◌else◌, nat_lt, not, ◌&&◌}
use Rattle.std.specs.Str.{bytes_eq}
use Rattle.std.proofs.lemmas.Slice.Eq.{bytes_eq-Decides}
use Rattle.std.proofs.lemmas.List.{get_or_append_left, map-append, length-map}
use Rattle.std.proofs.Math.Seq.{get_or-append_seam}
use Rattle.std.proofs.lemmas.Bool.{false≢true, and_from}
use Rattle.std.specs.List.{list_all}
use Rattle.std.proofs.lemmas.List.Folds.{list_all-append}
use Rattle.tta_ops.specs.Reserved.{is_reserved, AreFree}
use Rattle.tta_ops.specs.Row.{Row, names_of, arities_of}
use Rattle.tta_ops.specs.Units.{first_at, AreDistinct, AreArities}

-- a name that has no first place stands nowhere
first_at-none : (name : List ℕ) (k : ℕ) (names : List (List ℕ)) → first_at name k names ≡ None → (i : ℕ)
    → i < length names → get_or names i [] ≡ name → ⊥
first_at-none name k [] none i within same = omega arith
first_at-none name k (x ∷ xs) none i within same =
    elim (bytes_eq x name)
    as (λ b. bytes_eq x name ≡ b → (if b then Some k else first_at name (k + 1) xs) ≡ None → ⊥) [
      | true ↦ λ equal some. cc
      | false ↦ λ other none. elim i as (λ j. j < length (x ∷ xs) → get_or (x ∷ xs) j [] ≡ name → ⊥) [
        | zero ↦ λ within same. absurd (false≢true (sym other ∙ (bytes_eq-Decides x name).1 same))
        | suc j ↦ λ within same. first_at-none name (k + 1) xs none j (omega arith) same
      ] within same
    ] refl none

AreDistinct-append : (names : List (List ℕ)) (name : List ℕ) → AreDistinct names
    → first_at name 0 names ≡ None → AreDistinct (names ++ name ∷ [])
AreDistinct-append names name distinct none i j before within same =
    let size : length (names ++ name ∷ []) ≡ length names + 1 = length-append names (name ∷ []) in
    let left : get_or (names ++ name ∷ []) i [] ≡ get_or names i [] =
    get_or_append_left names (name ∷ []) [] i (omega (arith, size)) in
    elim (nat_lt j (length names)) as (λ b. nat_lt j (length names) ≡ b → ⊥) [
      | true ↦ λ below. let inside : j < length names = grind (arith, below) in
          distinct i j before inside (sym left ∙ same ∙ get_or_append_left names (name ∷ []) [] j inside)
      | false ↦ λ above. let last : j ≡ length names = grind (arith, above, size) in
          first_at-none name 0 names none i (omega (arith, last)) (sym left ∙ same ∙ ap (λ k. get_or (names ++ name ∷ []) k []) last ∙ get_or-append_seam names name [] [])
    ] refl

AreArities-append : (arities : List ℕ) (arity : ℕ) → AreArities arities → 0 < arity → arity < 3
    → AreArities (arities ++ arity ∷ [])
AreArities-append arities arity old some two i within =
    let size : length (arities ++ arity ∷ []) ≡ length arities + 1 = length-append arities (arity ∷ []) in
    elim (nat_lt i (length arities))
    as (λ b. nat_lt i (length arities) ≡ b → (0 < get_or (arities ++ arity ∷ []) i 0) × (get_or (arities ++ arity ∷ []) i 0 < 3)) [
      | true ↦ λ below. let inside : i < length arities = grind (arith, below) in rw (get_or_append_left arities (arity ∷ []) 0 i inside) (old i inside)
      | false ↦ λ above. let last : i ≡ length arities = grind (arith, above, size) in rw (last, get_or-append_seam arities arity [] 0) (some, two)
    ] refl

pub few_more : (rows : List Row) (row : Row) → length rows < 65536
    → length (names_of (rows ++ row ∷ [])) < 65537
few_more rows row room = rw (length-map, length-append) (omega arith)

pub distinct_more : (rows : List Row) (row : Row) → AreDistinct (names_of rows)
    → first_at row.name 0 (names_of rows) ≡ None → AreDistinct (names_of (rows ++ row ∷ []))
distinct_more rows row distinct none = rw (map-append (λ r. r.name) rows (row ∷ [])) (AreDistinct-append (names_of rows) row.name distinct none)

pub arities_more : (rows : List Row) (row : Row) → AreArities (arities_of rows) → 0 < row.place.arity
    → row.place.arity < 3 → AreArities (arities_of (rows ++ row ∷ []))
arities_more rows row old some two = rw (map-append (λ r. r.place.arity) rows (row ∷ [])) (AreArities-append (arities_of rows) row.place.arity old some two)

pub free_more : (rows : List Row) (row : Row) → AreFree (names_of rows) → is_reserved row.name ≡ false
    → AreFree (names_of (rows ++ row ∷ []))
free_more rows row old free =
    let test = λ (name : List ℕ). not (is_reserved name) in
    ap (list_all test) (map-append (λ r. r.name) rows (row ∷ [])) ∙ list_all-append test (names_of rows) (row.name ∷ [])
    ∙ and_from (list_all test (names_of rows)) (test row.name && true) old (and_from (test row.name) true (ap not free) refl)

-- what a table says of its rows
pub record IsKept (rows : List Row) : Type 0 where
  pub few : length (names_of rows) < 65537
  pub distinct : AreDistinct (names_of rows)
  pub reserved : AreFree (names_of rows)
  pub one_or_two : AreArities (arities_of rows)

-- it holds still, whether a row was added or there was no memory
pub kept_after : {T E : Type 0} (result : Result T E) (old new : List Row) (row : Row) → IsKept old
    → first_at row.name 0 (names_of old) ≡ None → is_reserved row.name ≡ false → 0 < row.place.arity → row.place.arity < 3 → length old < 65536
    → OnOk result (new ≡ old ++ row ∷ []) → OnErr result (new ≡ old) → IsKept new
kept_after (Ok _) old new row kept fresh free some two room more same = rw more (record {
  few = few_more old row room;
  distinct = distinct_more old row kept.distinct fresh;
  reserved = free_more old row kept.reserved free;
  one_or_two = arities_more old row kept.one_or_two some two;
})
kept_after (Err _) old new row kept fresh free some two room more same = rw same kept
