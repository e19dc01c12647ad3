use Rattle.std.proofs.Common.{◌≡◌, drop}
use Rattle.std.specs.List.{list_any}
use Rattle.tta_sim.specs.Decoded.{is_loud_start}
use Rattle.tta_sim.proofs.decode.any_loud.Given as goal

abbrev pub invariant-loop-s : goal.invariant-loop-s
invariant-loop-s l = list_any is_loud_start l.starts ≡ list_any is_loud_start (drop l.s-index l.starts)
