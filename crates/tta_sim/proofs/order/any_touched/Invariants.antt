use Rattle.std.proofs.Common.{◌≡◌, drop}
use Rattle.std.specs.List.{list_any}
use Rattle.tta_sim.specs.Order.{is_touched}
use Rattle.tta_sim.proofs.order.any_touched.Given as goal

abbrev pub invariant-loop-w : goal.invariant-loop-w
invariant-loop-w l = list_any (is_touched l.earlier) l.writes ≡ list_any (is_touched l.earlier) (drop l.w-index l.writes)
