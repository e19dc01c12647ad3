-- The measure so far.
use Rattle.std.proofs.Common.{◌≡◌, ℕ, ◌+◌, ◌*◌, ◌≤◌, drop}
use Rattle.tta_check.specs.Measures.{ports_measure}
use Rattle.tta_check.proofs.measure.ports_measure.Given as goal

pub record Far (sum all rest index : ℕ) : Type 0 where
  pub value : all ≡ sum + rest
  pub most : sum ≤ 4294967550 * index

abbrev pub invariant-loop-port : goal.invariant-loop-port
invariant-loop-port l = Far l.sum (ports_measure l.ports) (ports_measure (drop l.port-index l.ports)) l.port-index
