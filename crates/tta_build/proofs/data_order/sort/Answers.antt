use Rattle.std.proofs.Common.{rules}
use Rattle.std.proofs.lemmas.List.Sorted.{IsNonDecreasingBy-from_sort, answers_always}
use Rattle.tta_build.specs.Cited.{Datum}
use Rattle.tta_build.proofs.data_order.sort.Goals as goal

pub returns-clause-ascend : goal.returns-clause-ascend
returns-clause-ascend c =
    IsNonDecreasingBy-from_sort (λ (d : Datum). d.address) _ (c.in_ok-sort_by_key.ensures.sorted (λ (d : Datum). d.address) (answers_always _ _ _ (λ f a r g h. search rules)))
