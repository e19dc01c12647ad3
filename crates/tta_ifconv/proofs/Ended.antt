-- A run that has ended stays.
use Rattle.std.proofs.Common.{◌≡◌, ◌≤◌, ℕ, true, sym, ap, ◌∙◌}
use Rattle.std.proofs.lemmas.Bool.{true≢false}
use Rattle.tta_ifconv.specs.Cited.{iterate, Units, Program, State, next}
use Rattle.tta_program.proofs.Halted.{later_end}
use Rattle.tta_ifconv.specs.Statement.{has_ended}

-- a state after an end is that end
pub later-end : (u : Units) (p : Program) (m n : ℕ) (s : State) → m ≤ n → has_ended (iterate m (next u p) s).outcome ≡ true
    → iterate n (next u p) s ≡ iterate m (next u p) s
later-end u p m n s le ended = later_end u p m n s le (λ runs. true≢false (sym ended ∙ ap has_ended runs))
