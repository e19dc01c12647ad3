-- Which moves of an instruction go into one place.
use Rattle.std.proofs.Common.{◌≡◌, Bool, not, ◌&&◌, ◌||◌, List, [], ◌∷◌, map, Option, Some, None, refl, ap, ◌∙◌}
use Rattle.std.specs.Prelude.{option_map}
use Rattle.std.specs.List.{list_any, filter_map}
use Rattle.tta_code.specs.Cited.{are_apart, same_place, are_different}
use Rattle.tta_arch.specs.Legal.{ends_of as ends_in}
use Rattle.tta_code.specs.declared.code.Move.{Move}
use Rattle.tta_code.specs.Legal.{ends_of}

-- whether two moves go into one place
abbrev pub meet_moves : Move → Move → Bool
meet_moves v w = same_place v.dst w.dst

any_ends : (v : Move) (slots : List (Option Move)) → list_any (λ w. same_place v.dst w.dst) (ends_in (map (option_map ends_of) slots)) ≡ list_any (meet_moves v) (filter_map (λ o. o) slots)
any_ends v [] = refl
any_ends v (None ∷ slots) = any_ends v slots
any_ends v (Some w ∷ slots) = ap (λ b. same_place v.dst w.dst || b) (any_ends v slots)

-- moves whose ends are apart go into places that differ
pub moves_apart : (slots : List (Option Move)) → are_apart (ends_in (map (option_map ends_of) slots)) ≡ are_different meet_moves (filter_map (λ o. o) slots)
moves_apart [] = refl
moves_apart (None ∷ slots) = moves_apart slots
moves_apart (Some v ∷ slots) = ap (λ b. not b && are_apart (ends_in (map (option_map ends_of) slots))) (any_ends v slots) ∙ ap (λ b. not (list_any (meet_moves v) (filter_map (λ o. o) slots)) && b) (moves_apart slots)
