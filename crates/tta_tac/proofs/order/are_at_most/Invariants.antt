use Rattle.std.proofs.Common.{◌≡◌, true, nat_le, take}
use Rattle.std.specs.List.{list_all}
use Rattle.tta_tac.specs.Cycles.{passes}
use Rattle.tta_tac.proofs.order.are_at_most.Given as goal

abbrev pub invariant-loop-step : goal.invariant-loop-step
invariant-loop-step l = list_all (passes (λ n. nat_le n l.most) l.numbers) (take l.step-index l.steps) ≡ true
