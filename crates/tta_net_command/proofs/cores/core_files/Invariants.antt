use Rattle.std.proofs.Common.{◌≤◌, ◌-◌, map}
use Rattle.std.specs.String.{string_bytes}
use Rattle.tta_net_command.specs.Cited.{stated}
use Rattle.tta_net_command.proofs.CoresTaken.{AreTakenSoFar}
use Rattle.tta_net_command.proofs.cores.core_files.Given as goal

abbrev pub invariant-cores : goal.invariant-cores
invariant-cores g l = record {
  within : l.core ≤ l.count;
  taken : AreTakenSoFar (stated (λ v. (goal.OpUnit-dyn g v).unit_meaning v.1) l.units) (map (λ w. string_bytes w) l.names)
      (g.F.Files.world l.initial.files) (g.F.Files.world l.files) l.taken.cores.items (map (λ v. v.items) l.taken.memories.items) l.core;
}

abbrev pub decreases-cores : goal.decreases-cores
decreases-cores g l = l.count - l.core
