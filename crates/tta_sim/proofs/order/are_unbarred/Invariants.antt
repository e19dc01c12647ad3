use Rattle.std.proofs.Common.{◌≡◌, ◌-◌, drop, length}
use Rattle.tta_sim.specs.Cited.{are_different}
use Rattle.tta_sim.specs.Order.{is_barred}
use Rattle.tta_sim.proofs.order.are_unbarred.Given as goal

abbrev pub invariant-starts : goal.invariant-starts
invariant-starts l = are_different is_barred l.starts ≡ are_different is_barred (drop l.i l.starts)

abbrev pub decreases-starts : goal.decreases-starts
decreases-starts l = length l.starts - l.i
