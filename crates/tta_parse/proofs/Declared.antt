-- What a map from keys that hold bytes knows of the names that it stands for.
use Rattle.std.proofs.Common.{◌≡◌, ℕ, cond, List, [], ◌∷◌, ◌++◌, map, None, Some, refl, ap, ◌∙◌}
use Rattle.std.proofs.lemmas.List.{map-append}
use Rattle.std.specs.Map.{lookup}
use Rattle.std.specs.Str.{bytes_eq}
use Rattle.std.specs.Cmp.Lexicographic.{nat_list_eq_equiv}
use Rattle.indexmap.specs.IndexMap.{IndexMap, insert_entry}
use Rattle.indexmap.proofs.CallerLemmas.{insert_entry-new}
use Rattle.tta_parse.specs.Names.{Declared, named_in}

module _ {K P : Type 0} (bytes : K → List ℕ) where
  -- the entries as names
  abbrev pub named : List (K × P) → Declared P
  named es = map (λ e. (bytes e.0, e.1)) es

  -- the first key with these bytes is the first such name
  pub named_in-lookup : (name : List ℕ) (es : List (K × P)) → lookup (λ k. bytes_eq name (bytes k)) es ≡ named_in (named es) name
  named_in-lookup name [] = refl
  named_in-lookup name (e ∷ es) =
      ap (λ b. cond b (Some e.1) (lookup (λ k. bytes_eq name (bytes k)) es)) (nat_list_eq_equiv.symm name (bytes e.0))
      ∙ ap (cond (bytes_eq (bytes e.0) name) (Some e.1)) (named_in-lookup name es)

  -- a name that was not declared goes last
  pub named-new : {S : Type 0} (m : IndexMap K P S) (key : K) (place : P) (es : List (K × P))
      → es ≡ insert_entry (λ x y. bytes_eq (bytes x) (bytes y)) m.entries key place
      → named_in (named m.entries) (bytes key) ≡ None → named es ≡ named m.entries ++ (bytes key, place) ∷ []
  named-new m key place es inserted none =
      ap named inserted
      ∙ ap named (insert_entry-new (λ x y. bytes_eq (bytes x) (bytes y)) m key place (named_in-lookup (bytes key) m.entries ∙ none))
      ∙ map-append (λ (e : K × P). (bytes e.0, e.1)) m.entries ((key, place) ∷ [])
