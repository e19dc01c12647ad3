-- Words that are names, all of them.
use Rattle.std.proofs.Common.{◌≡◌, List, [], ◌∷◌, refl, inl, inr}
use Rattle.std.specs.Prelude.{Some, None, map, if◌then◌else◌}
use Rattle.std.specs.List.{list_all}
use Rattle.std.proofs.lemmas.Bool.{cases_Bool}
use Rattle.tta_machine.specs.Cited.{Word, plain, texts, is_name_kind}
use Rattle.tta_machine.specs.Forms.{names_alone}

pub names_alone_of : (words : List Word)
    → names_alone (map plain words) ≡ (if list_all (λ w. is_name_kind w.kind) words then Some (texts words) else None)
names_alone_of [] = refl
names_alone_of (w ∷ ws) =
    elim (cases_Bool (is_name_kind w.kind)) [
      | inr other ↦ rw other refl
      | inl name ↦ elim (cases_Bool (list_all (λ w. is_name_kind w.kind) ws)) [
        | inl all ↦ rw (name, names_alone_of ws, all) refl
        | inr some ↦ rw (name, names_alone_of ws, some) refl
      ]
    ]
