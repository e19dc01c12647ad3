use Rattle.std.proofs.Common.{◌≡◌, ◌+◌, ◌*◌, ◌≤◌, ◌^◌, drop}
use Rattle.std.specs.List.{sum_by, enumerate_from}
use Rattle.tta_profile.specs.Report.{instruction_sum}
use Rattle.tta_profile.proofs.sums.code_sum.Given as goal

abbrev pub invariant-loop-address : goal.invariant-loop-address
invariant-loop-address l = record {
  total : l.sum + sum_by (λ i. instruction_sum l.counts l.test i.0 i.1.moves) (enumerate_from l.address (drop l.address l.words)) ≡ sum_by (λ i. instruction_sum l.counts l.test i.0 i.1.moves) (enumerate_from 0 l.words);
  small : l.sum ≤ l.address * 2 ^ 68;
}
