-- What is loaded has made no cycle.
use Rattle.std.proofs.Common.{◌≡◌, ◌<◌, ◌^◌, ℕ, ◌+◌, List, [], arith}
use Rattle.tta_inspect.specs.Cited.{Machine, start, Stands}
use Rattle.tta_sim.specs.Held.{Held}

-- code that was loaded has made no cycle, so the cycles before those that are shown, and a bound, leave room
pub few_cycles : (h : Held) (m : Machine) (memory : List ℕ) (first bound : ℕ) → Stands h (start m memory []) → first < 2 ^ 48 → bound < 2 ^ 48
    → h.cycle + first + bound < 2 ^ 62
few_cycles h m memory first bound at early few = let none : h.cycle ≡ 0 = at.cycle in omega arith
