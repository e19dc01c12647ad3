use Rattle.std.proofs.Common.{◌≡◌, ◌≤◌, ◌-◌}
use Rattle.tta_net_command.specs.Cited.{fault_by}
use Rattle.tta_net_command.specs.Net.{first_fault}
use Rattle.tta_net_command.proofs.report.first_fault.Given as goal

abbrev pub invariant-cores : goal.invariant-cores
invariant-cores l = record {
  within : l.core ≤ l.count;
  first : l.first ≡ first_fault (fault_by l.cluster) l.core;
}

abbrev pub decreases-cores : goal.decreases-cores
decreases-cores l = l.count - l.core
