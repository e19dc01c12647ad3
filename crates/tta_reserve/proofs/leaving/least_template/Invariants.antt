use Rattle.std.proofs.Common.{◌≡◌, ℕ, ◌<◌, false}
use Rattle.tta_reserve.specs.Leaving.{row_fills}
use Rattle.tta_reserve.proofs.leaving.least_template.Given as goal

abbrev pub invariant-loop-t : goal.invariant-loop-t
invariant-loop-t l = (k : ℕ) → k < l.t → row_fills l.templates l.r k l.imm l.reg ≡ false
