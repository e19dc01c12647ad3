use Rattle.std.proofs.Common.{ltb, rules}
use Rattle.std.proofs.lemmas.List.Sorted.{IsPartitionPoint-from_clause, IsPartitionedBy-ltb}
use Rattle.tta_image.specs.Ranks.{dest_rank}
use Rattle.tta_image.proofs.Sought.{rising_order}
use Rattle.tta_image.proofs.search.dests_below.Goals as goal

pub returns : goal.returns
returns c =
    IsPartitionPoint-from_clause (λ s. ltb (dest_rank s) c.args.rank) _ _ c.partition_point.ensures.partitioned
    (IsPartitionedBy-ltb dest_rank _ c.args.rank (rising_order dest_rank 0 16387 c.args.dests.now c.requires.rising)) (λ a r q k. search rules)
