use Rattle.std.proofs.Common.{◌≡◌, ◌++◌, drop}
use Rattle.std.specs.List.{filter_map, enumerate_from}
use Rattle.tta_block_profile.specs.Spent.{spent_if, sum_of}
use Rattle.tta_block_profile.proofs.costly.all_spent.Given as goal

abbrev pub invariant-loop-k : goal.invariant-loop-k
invariant-loop-k l =
    l.spent.items ++ filter_map (λ x. spent_if x.0 (sum_of l.counts l.blocks.starts.now x.0 x.1)) (enumerate_from l.k (drop l.k l.blocks.placed.now))
    ≡ filter_map (λ x. spent_if x.0 (sum_of l.counts l.blocks.starts.now x.0 x.1)) (enumerate_from 0 l.blocks.placed.now)
