-- A clock that carries nothing out leaves what a circuit knows.
use Rattle.std.proofs.Common.{◌≡◌, ℕ, ap, ◌∙◌}
use Rattle.tta_trap.specs.Cited.{Machine, KeptPort, State, is_set, HasWord, IsPast, Watches}
use Rattle.tta_hardware.specs.Signals.{Signal as Named}
use Rattle.tta_trap.specs.Tells.{Knows}

-- what knows of a state still does
pub still_knows : (m : Machine) (a b : Named → ℕ) (s : State) → ((n : Named) → a n ≡ b n) → Knows m b s → Knows m a s
still_knows m a b s words knows = record {
  places = λ p can has. ap is_set (words (Watches (HasWord p))) ∙ knows.places p can has;
  ports = λ unit less. ap is_set (words (Watches (HasWord (KeptPort unit)))) ∙ knows.ports unit less;
  past = ap is_set (words (Watches IsPast)) ∙ knows.past;
}
