-- Lists over numbers, one number after another.
use Rattle.std.proofs.Common.{◌≡◌, ℕ, ◌+◌, List, [], ◌∷◌, ◌++◌, map, length, suc, take, take_all, ◌-◌, sym, ap, ◌∙◌, arith}
use Rattle.std.proofs.lemmas.List.{map-append}
use Rattle.tta_cost.specs.Cited.{numbers}
use Rattle.tta_list.proofs.Lists.{range_more}

-- what is made of numbers, and of one number more
pub made_more : (F : ℕ → ℕ) (mid new : List ℕ) (j : ℕ) → mid ≡ map F (numbers j) → new ≡ mid ++ F j ∷ [] → new ≡ map F (numbers (j + 1))
made_more F mid new j before put =
    put ∙ ap (λ (t : List ℕ). t ++ F j ∷ []) before ∙ sym (map-append F (numbers j) (j ∷ [])) ∙ ap (map F) (sym (range_more 0 j j (omega arith)))

-- what stands after the first of some elements
pub after_one : {A : Type 0} (xs : List A) → take (suc (length xs) - 1) xs ≡ xs
after_one xs = take_all (suc (length xs) - 1) xs (omega arith)
