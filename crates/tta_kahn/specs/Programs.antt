-- Programs that are joined by queues.
use Rattle.std.specs.Prelude.{ℕ, Bool, true, false, List, [], Option, slice_get, zip, map}
use Rattle.std.specs.Option.{option_map_or}
use Rattle.tta_kahn.specs.Cited.{Units, Program}
use Rattle.tta_program.specs.Sequential.{State, Outcome, Running, Halted, Waiting, next, start}
use Rattle.tta_kahn.specs.Network.{Network, NetworkCore, joined, interleaved, output_of, AreAtRest}

-- the state of a program after one more step
abbrev pub step_of : Units → List Program → (core : ℕ) → State → State
step_of u programs core s = option_map_or (λ p. next u p s) (slice_get programs core) s

-- whether a run waits for a word of the input
abbrev pub is_waiting : Outcome → Bool
is_waiting Running = false
is_waiting Halted = false
is_waiting Waiting = true

-- programs that are joined by queues, with these words from outside for those that no other feeds
abbrev pub steps_of : Units → List Program → (feeds : List (Option ℕ)) → (given : ℕ → List ℕ) → Network State
steps_of u programs feeds given = record {
  step = step_of u programs;
  waits = λ s. is_waiting s.outcome;
  rest = λ s. s.rest;
  output = λ s. s.output;
  with_rest = λ s words. record s { rest = words };
  feeds = feeds;
  given = given;
}

-- each program's state at first, with these words in its data memory
abbrev pub first_states : List Program → (memories : List (List ℕ)) → List State
first_states programs memories = map (λ p. start p.0 p.1 []) (zip programs memories)

-- the programs after these steps, where each number is that of the program that makes one
abbrev pub group : Units → List Program → (feeds : List (Option ℕ)) → (given : ℕ → List ℕ) → (memories : List (List ℕ)) → (steps : List ℕ)
    → List (NetworkCore State)
group u programs feeds given memories steps =
    interleaved (steps_of u programs feeds given) (joined (first_states programs memories)) steps

-- what a program has output then
abbrev pub group_output : Units → List Program → (feeds : List (Option ℕ)) → (given : ℕ → List ℕ) → (memories : List (List ℕ))
    → (steps : List ℕ) → (core : ℕ) → List ℕ
group_output u programs feeds given memories steps core =
    output_of (steps_of u programs feeds given) (group u programs feeds given memories steps) core

-- the programs are at rest then
abbrev pub IsGroupRest : Units → List Program → (feeds : List (Option ℕ)) → (given : ℕ → List ℕ) → (memories : List (List ℕ))
    → (steps : List ℕ) → Type 0
IsGroupRest u programs feeds given memories steps =
    AreAtRest (steps_of u programs feeds given) (group u programs feeds given memories steps)
