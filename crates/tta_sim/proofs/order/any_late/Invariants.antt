use Rattle.std.proofs.Common.{◌≡◌, drop}
use Rattle.std.specs.List.{list_any}
use Rattle.tta_sim.specs.Order.{is_late}
use Rattle.tta_sim.proofs.order.any_late.Given as goal

abbrev pub invariant-loop-s : goal.invariant-loop-s
invariant-loop-s l = list_any (is_late l.writes) l.starts ≡ list_any (is_late l.writes) (drop l.s-index l.starts)
