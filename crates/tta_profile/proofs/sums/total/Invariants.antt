use Rattle.std.proofs.Common.{◌≡◌, ◌*◌, ◌≤◌, ◌^◌, take}
use Rattle.std.specs.List.{sum_by}
use Rattle.tta_profile.proofs.sums.total.Given as goal

abbrev pub invariant-loop-n : goal.invariant-loop-n
invariant-loop-n l = record {
  total : l.sum ≡ sum_by (λ n. n) (take l.n-index l.counts);
  small : l.sum ≤ l.n-index * 2 ^ 64;
}
