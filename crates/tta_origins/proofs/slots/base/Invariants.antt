use Rattle.std.proofs.Common.{◌≡◌, ◌≤◌, ◌+◌, ◌-◌, ◌*◌, drop}
use Rattle.tta_origins.specs.Cited.{slots_before}
use Rattle.tta_origins.proofs.slots.base.Given as goal

abbrev pub invariant-loop-k : goal.invariant-loop-k
invariant-loop-k l = record {
  value : l.slots + slots_before l.p l.k (l.owner - l.k) (drop l.k l.p.procs) ≡ slots_before l.p 0 l.owner l.p.procs;
  few : l.slots ≤ 4294967298 * l.k;
}
