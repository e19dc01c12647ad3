use Rattle.std.proofs.Common.{◌≡◌, drop}
use Rattle.std.specs.List.{list_any}
use Rattle.tta_sim.specs.Order.{is_shown_to}
use Rattle.tta_sim.proofs.order.any_shown_to.Given as goal

abbrev pub invariant-loop-s : goal.invariant-loop-s
invariant-loop-s l = list_any (λ s. is_shown_to s l.r) l.starts ≡ list_any (λ s. is_shown_to s l.r) (drop l.s-index l.starts)
