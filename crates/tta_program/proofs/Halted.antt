-- A run that is over stays as it is.
use Rattle.std.proofs.Common.{◌≡◌, ◌≢◌, ◌≤◌, ℕ, ap, refl}
use Rattle.tta_list.specs.Iterate.{iterate}
use Rattle.tta_list.proofs.Iterated.{iterate-later}
use Rattle.tta_ops.specs.Units.{Units}
use Rattle.tta_program.specs.Program.{Program}
use Rattle.tta_program.specs.Sequential.{State, Outcome, Running, Halted, Waiting, next, next_of}

-- a state that has halted stays
pub halted_stays : (u : Units) (p : Program) (s : State) → s.outcome ≡ Halted → next u p s ≡ s
unfolding next
halted_stays u p s is = ap (next_of u p s) is

-- and so does one that waits
over_stays : (u : Units) (p : Program) (s : State) → s.outcome ≢ Running → next u p s ≡ s
unfolding next
over_stays u p s over = by s.outcome over where
  by : (o : Outcome) → o ≢ Running → next_of u p s o ≡ s
  by Running over = absurd (over refl)
  by Halted over = refl
  by Waiting over = refl

-- a state after an end is that end
pub later_end : (u : Units) (p : Program) (m n : ℕ) (s : State) → m ≤ n → (iterate m (next u p) s).outcome ≢ Running
    → iterate n (next u p) s ≡ iterate m (next u p) s
later_end u p m n s le over = iterate-later (next u p) m n s le (over_stays u p (iterate m (next u p) s) over)
