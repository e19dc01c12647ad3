-- The first place of a name, in the words of the map that finds it.
use Rattle.std.proofs.Common.{◌≡◌, ◌+◌, ◌++◌, ◌∷◌, [], ℕ, List, Option, Some, None, true, false, refl, sym, ap, subst, ◌∙◌, cond, map, position, option_map, slice_get}
use Rattle.std.specs.Prelude.{if◌then◌else◌}
use Rattle.std.specs.List.{position_from}
use Rattle.std.specs.Str.{bytes_eq, IsUtf8}
use Rattle.std.specs.Map.{keys_of, lookup}
use Rattle.std.specs.declared.hash.FoldHasher.{FoldHasher}
use Rattle.std.specs.declared.hash.BuildHasherDefault.{BuildHasherDefault}
use Rattle.indexmap.specs.IndexMap.{IndexMap, insert_entry}
use Rattle.indexmap.proofs.CallerLemmas.{insert_entry-new}
use Rattle.std.specs.Global.{Global}
use Rattle.std.specs.declared.string.String.{String}
use Rattle.std.specs.String.{string_bytes, string_eq}
use Rattle.std.proofs.lemmas.List.{map-append}
use Rattle.std.proofs.lemmas.Cmp.{nat_list_eq_equiv}
use Rattle.std.proofs.lemmas.Iterator.Adapters.{position_from-zero}
use Rattle.std.proofs.lemmas.Option.{slice_get-map}
use Rattle.std.proofs.lemmas.Slice.Eq.{bytes_eq-Decides}
use Rattle.std.proofs.lemmas.Str.{IsUtf8-had}
use Rattle.tta_ops.specs.declared.place.Place.{Place}
use Rattle.tta_ops.specs.Units.{first_at}
use Rattle.tta_ops.specs.Row.{Row, names_of, place_of}
use Rattle.tta_ops.specs.Entries.{rows_of}

first_at-position_from : (name : List ℕ) (k : ℕ) (entries : List (String Global × Place))
    → first_at name k (names_of (rows_of entries)) ≡ position_from (λ key. bytes_eq name (string_bytes key)) k (keys_of entries)
first_at-position_from name k [] = refl
first_at-position_from name k (e ∷ es) =
    ap (λ b. if b then Some k else first_at name (k + 1) (names_of (rows_of es))) (nat_list_eq_equiv.symm (string_bytes e.0) name)
    ∙ ap (λ later. cond (bytes_eq name (string_bytes e.0)) (Some k) later) (first_at-position_from name (k + 1) es)

-- the map's place of a name is the first
pub position_first_at : (name : List ℕ) (entries : List (String Global × Place))
    → position (λ key. bytes_eq name (string_bytes key)) (keys_of entries) ≡ first_at name 0 (names_of (rows_of entries))
position_first_at name entries =
    position_from-zero (λ key. bytes_eq name (string_bytes key)) (keys_of entries) ∙ sym (first_at-position_from name 0 entries)

-- bytes that are no text are no name
pub first_at_no_text : (name : List ℕ) (k : ℕ) (entries : List (String Global × Place)) → (IsUtf8 name → ⊥)
    → first_at name k (names_of (rows_of entries)) ≡ None
first_at_no_text name k [] not_text = refl
first_at_no_text name k (e ∷ es) not_text =
    elim (bytes_eq (string_bytes e.0) name)
    as (λ b. bytes_eq (string_bytes e.0) name ≡ b → (if b then Some k else first_at name (k + 1) (names_of (rows_of es))) ≡ None) [
      | true ↦ λ same. absurd (not_text (subst IsUtf8 ((bytes_eq-Decides (string_bytes e.0) name).0 same) (IsUtf8-had (string_bytes e.0) e.0.ok)))
      | false ↦ λ other. first_at_no_text name (k + 1) es not_text
    ] refl

-- the name of a row that stands for an entry
pub name_at : (entries : List (String Global × Place)) (op : ℕ)
    → slice_get (names_of (rows_of entries)) op ≡ option_map (λ e. string_bytes e.0) (slice_get entries op)
name_at entries op =
    let entry_row : String Global × Place → Row = λ e. record { name = string_bytes e.0; place = e.1 } in
    slice_get-map (λ row. row.name) (rows_of entries) op
    ∙ ap (λ o. option_map (λ row. row.name) o) (slice_get-map entry_row entries op)
    ∙ map_twice (slice_get entries op)
  where
    map_twice : (o : Option (String Global × Place))
        → option_map (λ row. row.name) (option_map (λ e. let r : Row = record { name = string_bytes e.0; place = e.1 } in r) o) ≡ option_map (λ e. string_bytes e.0) o
    map_twice None = refl
    map_twice (Some e) = refl

lookup-none : (name : List ℕ) (k : ℕ) (entries : List (String Global × Place))
    → first_at name k (names_of (rows_of entries)) ≡ None
    → lookup (λ key. bytes_eq name (string_bytes key)) entries ≡ None
lookup-none name k [] absent = refl
lookup-none name k (e ∷ es) absent =
    let turned : bytes_eq (string_bytes e.0) name ≡ bytes_eq name (string_bytes e.0) =
    nat_list_eq_equiv.symm (string_bytes e.0) name in
    elim (bytes_eq (string_bytes e.0) name)
    as (λ b. bytes_eq (string_bytes e.0) name ≡ b → (if b then Some k else first_at name (k + 1) (names_of (rows_of es))) ≡ None → lookup (λ key. bytes_eq name (string_bytes key)) (e ∷ es) ≡ None) [
      | true ↦ λ same none. cc
      | false ↦ λ other none. rw (sym turned ∙ other) (lookup-none name (k + 1) es none)
    ] refl absent

-- the place of a row that stands for an entry
pub place_at : (entries : List (String Global × Place)) (op : ℕ)
    → slice_get (map (λ e. e.1) entries) op ≡ place_of (rows_of entries) op
place_at entries op =
    let entry_row : String Global × Place → Row = λ e. record { name = string_bytes e.0; place = e.1 } in
    slice_get-map (λ e. e.1) entries op
    ∙ map_twice (slice_get entries op)
    ∙ ap (λ o. option_map (λ row. row.place) o) (sym (slice_get-map entry_row entries op))
  where
    map_twice : (o : Option (String Global × Place))
        → option_map (λ e. e.1) o ≡ option_map (λ row. row.place) (option_map (λ e. let r : Row = record { name = string_bytes e.0; place = e.1 } in r) o)
    map_twice None = refl
    map_twice (Some e) = refl

-- an entry with a new name stands at the end
entries_more : (m : IndexMap (String Global) Place (BuildHasherDefault FoldHasher)) (name : String Global) (place : Place)
    → first_at (string_bytes name) 0 (names_of (rows_of m.entries)) ≡ None
    → insert_entry string_eq m.entries name place ≡ m.entries ++ (name, place) ∷ []
entries_more m name place absent =
    insert_entry-new string_eq m name place (lookup-none (string_bytes name) 0 m.entries absent)

-- its place too
pub places_more : (m : IndexMap (String Global) Place (BuildHasherDefault FoldHasher)) (name : String Global) (place : Place)
    → first_at (string_bytes name) 0 (names_of (rows_of m.entries)) ≡ None
    → map (λ e. e.1) m.entries ++ place ∷ [] ≡ map (λ e. e.1) (insert_entry string_eq m.entries name place)
places_more m name place absent =
    sym (ap (map (λ e. e.1)) (entries_more m name place absent) ∙ map-append (λ e. e.1) m.entries ((name, place) ∷ []))

-- an entry with a new name is a row at the end
pub rows_more : (m : IndexMap (String Global) Place (BuildHasherDefault FoldHasher)) (name : String Global) (place : Place)
    → first_at (string_bytes name) 0 (names_of (rows_of m.entries)) ≡ None
    → rows_of (insert_entry string_eq m.entries name place) ≡ rows_of m.entries ++ record { name = string_bytes name; place = place } ∷ []
rows_more m name place absent =
    ap rows_of (entries_more m name place absent)
    ∙ map-append (λ e. let r : Row = record { name = string_bytes e.0; place = e.1 } in r) m.entries ((name, place) ∷ [])
