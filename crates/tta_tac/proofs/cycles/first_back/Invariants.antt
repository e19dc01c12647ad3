use Rattle.std.proofs.Common.{ℕ, ◌<◌}
use Rattle.tta_tac.specs.Cited.{Reaches}
use Rattle.tta_tac.specs.Text.{with_main}
use Rattle.tta_tac.proofs.cycles.first_back.Given as goal

abbrev pub invariant-loop-place : goal.invariant-loop-place
invariant-loop-place l = (j : ℕ) → j < l.place → Reaches (with_main l.procs 0) j j → ⊥
