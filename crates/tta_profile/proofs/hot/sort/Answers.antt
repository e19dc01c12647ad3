use Rattle.std.proofs.Common.{rules, ◌-◌, ◌^◌}
use Rattle.std.proofs.lemmas.List.Sorted.{IsNonDecreasingBy-from_sort, answers_always}
use Rattle.tta_profile.specs.declared.hot.Hot.{Hot}
use Rattle.tta_profile.proofs.hot.sort.Goals as goal

pub returns-clause-falls : goal.returns-clause-falls
returns-clause-falls c =
    IsNonDecreasingBy-from_sort (λ (h : Hot). 2 ^ 64 - 1 - h.times) _ (c.in_ok-sort_by_key.ensures.sorted (λ (h : Hot). 2 ^ 64 - 1 - h.times) (answers_always _ _ _ (λ f a r g h. search rules)))
