-- Code that has halted or faulted stays.
use Rattle.std.proofs.Common.{◌≡◌, ℕ, ap}
use Rattle.tta_code_run.specs.Cited.{Units, Machine, Code, Fault}
use Rattle.tta_code.specs.Cycle.{State, Halted, next, next_of}

-- a state that has halted stays
pub halted_stays : (u : Units) (m : Machine) (code : Code) (s : State) → s.outcome ≡ Halted → next u m code s ≡ s
unfolding next
halted_stays u m code s is = ap (next_of u m code s) is

-- a state that is at a fault stays
pub fault_stays : (u : Units) (m : Machine) (code : Code) (s : State) (number at : ℕ) → s.outcome ≡ Fault number at → next u m code s ≡ s
unfolding next
fault_stays u m code s number at is = ap (next_of u m code s) is
