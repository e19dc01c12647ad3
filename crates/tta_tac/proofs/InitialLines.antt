-- What a map from addresses to words knows of the data lines that it stands for.
use Rattle.std.proofs.Common.{◌≡◌, ◌≤◌, ℕ, ◌+◌, add-one, length, take, slice_get, subst, option_map, Bool, true, false, cond, List, [], ◌∷◌, ◌++◌, map, Some, refl, sym, ap, ◌∙◌}
use Rattle.std.specs.Prelude.{◌==◌, ◌||◌, nat_eq, is_some}
use Rattle.std.specs.Map.{lookup}
use Rattle.std.proofs.lemmas.List.{map-append, take_all, length-map}
use Rattle.std.proofs.lemmas.Option.{slice_get-map}
use Rattle.indexmap.specs.IndexMap.{IndexMap, insert_entry}
use Rattle.indexmap.proofs.CallerLemmas.{insert_entry-new}
use Rattle.tta_list.proofs.Tests.{none_from_is_some, same_back as same_test}
use Rattle.tta_tac.specs.Cited.{DataLine}
use Rattle.tta_tac.specs.declared.initial.Datum.{Datum}
use Rattle.tta_tac.specs.FirstPass.{has_address}
use Rattle.tta_list.proofs.Lists.{take_one_more as next_taken}

-- an entry as a data line
abbrev pub data_line : ℕ × Datum → DataLine
data_line e = record { address = e.0; value = e.1.value; line = e.1.line }

-- an address is found where a data line has it
pub found : (address : ℕ) (es : List (ℕ × Datum)) → is_some (lookup (nat_eq address) es) ≡ has_address (map data_line es) address
found address [] = refl
found address (e ∷ es) = by (address == e.0) (same_test e.0 address) (found address es) where
  by : (b : Bool) → (e.0 == address) ≡ b → is_some (lookup (nat_eq address) es) ≡ has_address (map data_line es) address
      → is_some (cond b (Some e.1) (lookup (nat_eq address) es)) ≡ ((e.0 == address) || has_address (map data_line es) address)
  by true same later = rw same refl
  by false other later = rw other later

-- an address that is not found goes last
pub added : {S : Type 0} (m : IndexMap ℕ Datum S) (address : ℕ) (d : Datum) (es : List (ℕ × Datum)) → es ≡ insert_entry nat_eq m.entries address d
    → has_address (map data_line m.entries) address ≡ false
    → map data_line es ≡ map data_line m.entries ++ data_line (address, d) ∷ []
added m address d es inserted free =
    let none = none_from_is_some (lookup (nat_eq address) m.entries) (found address m.entries ∙ free) in
    ap (map data_line) inserted
    ∙ ap (map data_line) (insert_entry-new nat_eq m address d none)
    ∙ map-append data_line m.entries ((address, d) ∷ [])

-- ---- copying in turn

-- the next data line goes after those that were copied
pub line_copied : (items ds : List DataLine) (es : List (ℕ × Datum)) (k : ℕ) (e : ℕ × Datum) → map data_line es ≡ ds
    → slice_get es k ≡ Some e → items ≡ take k ds → items ++ data_line e ∷ [] ≡ take (k + 1) ds
line_copied items ds es k e same at copied =
    let there : slice_get (map data_line es) k ≡ Some (data_line e) = slice_get-map data_line es k ∙ ap (option_map data_line) at in
    let found : slice_get ds k ≡ Some (data_line e) = subst (λ l. slice_get l k ≡ Some (data_line e)) same there in
    rw add-one (ap (λ l. l ++ data_line e ∷ []) copied ∙ sym (next_taken ds k (data_line e) found))

-- once as many were copied as there are, all were
pub all_copied : (items ds : List DataLine) (es : List (ℕ × Datum)) (k : ℕ) → map data_line es ≡ ds → length es ≤ k → items ≡ take k ds → items ≡ ds
all_copied items ds es k same enough copied =
    copied ∙ take_all k ds (subst (λ l. length l ≤ k) same (rw length-map enough))
