use Rattle.std.proofs.Common.{◌≡◌, drop}
use Rattle.std.specs.List.{list_any}
use Rattle.tta_sim.specs.Order.{reads_place}
use Rattle.tta_sim.proofs.order.reads_written.Given as goal

abbrev pub invariant-loop-w : goal.invariant-loop-w
invariant-loop-w l = list_any (λ w. reads_place w.place l.r) l.writes ≡ list_any (λ w. reads_place w.place l.r) (drop l.w-index l.writes)
