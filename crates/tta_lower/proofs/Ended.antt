-- A run that has ended stays.
use Rattle.std.proofs.Common.{◌≡◌, ◌≤◌, ℕ, false, sym, ap, ◌∙◌}
use Rattle.std.proofs.lemmas.Bool.{false≢true}
use Rattle.tta_lower.specs.Cited.{iterate, Units, Program, next, is_running}
use Rattle.tta_program.specs.Sequential.{State}
use Rattle.tta_program.proofs.Halted.{later_end}

-- a state after an end is that end
pub later-end : (u : Units) (p : Program) (m n : ℕ) (s : State) → m ≤ n → is_running (iterate m (next u p) s).outcome ≡ false
    → iterate n (next u p) s ≡ iterate m (next u p) s
later-end u p m n s le ended = later_end u p m n s le (λ runs. false≢true (sym ended ∙ ap is_running runs))
