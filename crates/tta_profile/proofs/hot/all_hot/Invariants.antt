use Rattle.std.proofs.Common.{◌≡◌, drop, ◌++◌}
use Rattle.std.specs.List.{enumerate_from, filter_map}
use Rattle.tta_profile.specs.Report.{hot_if}
use Rattle.tta_profile.proofs.hot.all_hot.Given as goal

abbrev pub invariant-loop-address : goal.invariant-loop-address
invariant-loop-address l = l.hot.items ++ filter_map (λ n. hot_if n.0 n.1) (enumerate_from l.address (drop l.address l.counts.executed)) ≡ filter_map (λ n. hot_if n.0 n.1) (enumerate_from 0 l.counts.executed)
