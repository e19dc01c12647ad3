use Rattle.std.proofs.Common.{◌≡◌, ◌+◌, ◌≤◌, drop}
use Rattle.std.specs.List.{sum_by, enumerate_from}
use Rattle.tta_arch.proofs.Layouts.{width_at}
use Rattle.tta_arch.proofs.layout.Layout.width_of_set.Given as goal

abbrev pub invariant-loop-bus : goal.invariant-loop-bus
invariant-loop-bus l = record {
  set : l.width + sum_by (width_at l.set) (enumerate_from l.bus (drop l.bus l.buses)) ≡ sum_by (width_at l.set) (enumerate_from 0 l.buses);
  small : l.width + sum_by (λ f. f.width) (drop l.bus l.buses) ≤ sum_by (λ f. f.width) l.buses;
}
