use Rattle.std.proofs.Common.{◌≡◌, ◌-◌, drop, length}
use Rattle.tta_sim.specs.Cited.{are_different}
use Rattle.tta_sim.specs.Order.{is_touched}
use Rattle.tta_sim.proofs.order.are_untouched.Given as goal

abbrev pub invariant-writes : goal.invariant-writes
invariant-writes l = are_different is_touched l.writes ≡ are_different is_touched (drop l.i l.writes)

abbrev pub decreases-writes : goal.decreases-writes
decreases-writes l = length l.writes - l.i
