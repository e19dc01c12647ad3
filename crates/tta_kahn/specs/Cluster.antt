-- Machines with code that are joined by queues.
use Rattle.std.specs.Prelude.{ℕ, Bool, true, false, List, [], Option, slice_get, zip, map}
use Rattle.std.specs.Option.{option_map_or}
use Rattle.tta_kahn.specs.Cited.{Units, Fault}
use Rattle.tta_code.specs.Cycle.{State, Outcome, Running, Halted, Waiting, next, start}
use Rattle.tta_kahn.specs.declared.cores.Core.{Core}
use Rattle.tta_kahn.specs.Network.{Network, NetworkCore, no_input, joined, interleaved, output_of, AreAtRest}

-- the state of a core after one more cycle
abbrev pub cycle_of : Units → List Core → (core : ℕ) → State → State
cycle_of u cores core s = option_map_or (λ c. next u c.machine c.code s) (slice_get cores core) s

-- whether a run waits for a word of the input
abbrev pub is_waiting : Outcome → Bool
is_waiting Running = false
is_waiting Halted = false
is_waiting Waiting = true
is_waiting (Fault number cycle) = false

-- cores that are joined by queues, with these words from outside for those that no other feeds: a step is a cycle
abbrev pub cycles_given : Units → List Core → (feeds : List (Option ℕ)) → (given : ℕ → List ℕ) → Network State
cycles_given u cores feeds given = record {
  step = cycle_of u cores;
  waits = λ s. is_waiting s.outcome;
  rest = λ s. s.rest;
  output = λ s. s.output;
  with_rest = λ s words. record s { rest = words };
  feeds = feeds;
  given = given;
}

-- the same with no words from outside
abbrev pub cycles : Units → List Core → (feeds : List (Option ℕ)) → Network State
cycles u cores feeds = cycles_given u cores feeds no_input

-- each core's state at first, with these words in its data space
abbrev pub first_states : List Core → (memories : List (List ℕ)) → List State
first_states cores memories = map (λ c. start c.0.machine c.1 []) (zip cores memories)

-- ---- with words from outside

-- the cores after these cycles, where each number is that of the core that makes one
abbrev pub cluster_given : Units → List Core → (feeds : List (Option ℕ)) → (given : ℕ → List ℕ) → (memories : List (List ℕ)) → (steps : List ℕ)
    → List (NetworkCore State)
cluster_given u cores feeds given memories steps =
    interleaved (cycles_given u cores feeds given) (joined (first_states cores memories)) steps

-- what a core has output then
abbrev pub output_given : Units → List Core → (feeds : List (Option ℕ)) → (given : ℕ → List ℕ) → (memories : List (List ℕ)) → (steps : List ℕ)
    → (core : ℕ) → List ℕ
output_given u cores feeds given memories steps core =
    output_of (cycles_given u cores feeds given) (cluster_given u cores feeds given memories steps) core

-- the cores are at rest then
abbrev pub IsRestGiven : Units → List Core → (feeds : List (Option ℕ)) → (given : ℕ → List ℕ) → (memories : List (List ℕ)) → (steps : List ℕ)
    → Type 0
IsRestGiven u cores feeds given memories steps =
    AreAtRest (cycles_given u cores feeds given) (cluster_given u cores feeds given memories steps)

-- ---- without

-- A cluster: the cores after these cycles, with no words from outside.
abbrev pub cluster : Units → List Core → (feeds : List (Option ℕ)) → (memories : List (List ℕ)) → (steps : List ℕ) → List (NetworkCore State)
cluster u cores feeds memories steps = cluster_given u cores feeds no_input memories steps

-- what a core has output then
abbrev pub cluster_output : Units → List Core → (feeds : List (Option ℕ)) → (memories : List (List ℕ)) → (steps : List ℕ) → (core : ℕ) → List ℕ
cluster_output u cores feeds memories steps core = output_given u cores feeds no_input memories steps core

-- the cores are at rest then
abbrev pub IsClusterRest : Units → List Core → (feeds : List (Option ℕ)) → (memories : List (List ℕ)) → (steps : List ℕ) → Type 0
IsClusterRest u cores feeds memories steps = IsRestGiven u cores feeds no_input memories steps
