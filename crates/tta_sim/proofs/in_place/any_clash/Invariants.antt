use Rattle.std.proofs.Common.{◌≡◌, drop}
use Rattle.std.specs.List.{list_any}
use Rattle.tta_sim.specs.Starts.{clashes_at}
use Rattle.tta_sim.proofs.in_place.any_clash.Given as goal

abbrev pub invariant-loop-s : goal.invariant-loop-s
invariant-loop-s l =
    list_any (λ s. clashes_at l.results s.unit s.does) l.starts ≡ list_any (λ s. clashes_at l.results s.unit s.does) (drop l.s-index l.starts)
