use Rattle.std.proofs.Common.{◌≡◌, ℕ, ◌<◌}
use Rattle.tta_own_circuits.proofs.command.place_of.Given as goal

-- no operation so far has the name
abbrev pub invariant-loop-i : goal.invariant-loop-i
invariant-loop-i g l = (j : ℕ) → j < l.i → g.U.OpUnit.unit_name l.unit j ≡ l.name → ⊥
