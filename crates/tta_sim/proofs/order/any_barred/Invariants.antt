use Rattle.std.proofs.Common.{◌≡◌, drop}
use Rattle.std.specs.List.{list_any}
use Rattle.tta_sim.specs.Order.{is_barred}
use Rattle.tta_sim.proofs.order.any_barred.Given as goal

abbrev pub invariant-loop-s : goal.invariant-loop-s
invariant-loop-s l = list_any (is_barred l.earlier) l.starts ≡ list_any (is_barred l.earlier) (drop l.s-index l.starts)
