use Rattle.std.proofs.Common.{rules, ◌-◌, ◌^◌}
use Rattle.std.proofs.lemmas.List.Sorted.{IsNonDecreasingBy-from_sort, answers_always}
use Rattle.tta_block_profile.specs.declared.costly.Spent.{Spent}
use Rattle.tta_block_profile.proofs.costly.sort.Goals as goal

pub returns-clause-falls : goal.returns-clause-falls
returns-clause-falls c =
    IsNonDecreasingBy-from_sort (λ (s : Spent). 2 ^ 128 - 1 - s.cycles) _ (c.in_ok-sort_by_key.ensures.sorted (λ (s : Spent). 2 ^ 128 - 1 - s.cycles) (answers_always _ _ _ (λ f a r g h. search rules)))
