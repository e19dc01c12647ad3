use Rattle.std.proofs.Common.{◌≡◌, drop}
use Rattle.std.specs.List.{list_any}
use Rattle.tta_sim.specs.Order.{is_changed}
use Rattle.tta_sim.proofs.order.any_changed.Given as goal

abbrev pub invariant-loop-t : goal.invariant-loop-t
invariant-loop-t l = list_any (is_changed l.writes l.starts) l.controls ≡ list_any (is_changed l.writes l.starts) (drop l.t-index l.controls)
