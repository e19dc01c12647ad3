use Rattle.std.proofs.Common.{ltb, rules}
use Rattle.std.proofs.lemmas.List.Sorted.{IsPartitionPoint-from_clause, IsPartitionedBy-ltb}
use Rattle.tta_image.specs.Ranks.{source_rank}
use Rattle.tta_image.proofs.Sought.{rising_order}
use Rattle.tta_image.proofs.search.sources_below.Goals as goal

pub returns : goal.returns
returns c =
    IsPartitionPoint-from_clause (λ s. ltb (source_rank s) c.args.rank) _ _ c.partition_point.ensures.partitioned
    (IsPartitionedBy-ltb source_rank _ c.args.rank (rising_order source_rank 0 16385 c.args.sources.now c.requires.rising)) (λ a r q k. search rules)
