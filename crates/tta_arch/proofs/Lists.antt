-- Elements that differ, when a list grows.
use Rattle.std.proofs.Common.{◌≡◌, ◌++◌, ◌∷◌, [], Bool, List, true, false, not, refl, ◌∙◌}
use Rattle.std.specs.Prelude.{◌||◌}
use Rattle.std.specs.List.{list_any}
use Rattle.std.proofs.lemmas.Bool.{and_parts, and_from, or_parts, or_from, not-true, not_from_false}
use Rattle.std.proofs.lemmas.List.Folds.{list_any-append}
use Rattle.tta_arch.specs.Rules.{are_different}

-- one more element, which none before it is like
pub different_push : {A : Type 0} (same : A → A → Bool) (xs : List A) (x : A)
    → are_different same xs ≡ true → list_any (λ y. same y x) xs ≡ false → are_different same (xs ++ x ∷ []) ≡ true
different_push same [] x all none = refl
different_push same (y ∷ ys) x all none =
    let parts = and_parts (not (list_any (same y) ys)) (are_different same ys) all in
    let others = or_parts (same y x) (list_any (λ z. same z x) ys) none in
    let here : list_any (same y) (ys ++ x ∷ []) ≡ false =
    list_any-append (same y) ys (x ∷ [])
    ∙ or_from (list_any (same y) ys) (same y x || false) (not-true (list_any (same y) ys) parts.0) (or_from (same y x) false others.0 refl) in
    and_from (not (list_any (same y) (ys ++ x ∷ []))) (are_different same (ys ++ x ∷ [])) (not_from_false (list_any (same y) (ys ++ x ∷ [])) here) (different_push same ys x parts.1 others.1)
