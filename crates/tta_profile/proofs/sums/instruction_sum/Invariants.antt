use Rattle.std.proofs.Common.{◌≡◌, ◌+◌, ◌*◌, ◌≤◌, ◌^◌, drop}
use Rattle.std.specs.List.{sum_by, enumerate_from}
use Rattle.tta_profile.specs.Report.{slot_sum}
use Rattle.tta_profile.proofs.sums.instruction_sum.Given as goal

abbrev pub invariant-loop-bus : goal.invariant-loop-bus
invariant-loop-bus l = record {
  total : l.sum + sum_by (λ o. slot_sum l.counts l.test l.address o.0 o.1) (enumerate_from l.bus (drop l.bus l.slots)) ≡ sum_by (λ o. slot_sum l.counts l.test l.address o.0 o.1) (enumerate_from 0 l.slots);
  small : l.sum ≤ l.bus * 2 ^ 64;
}
