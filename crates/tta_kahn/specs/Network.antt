-- Cores joined by queues, whatever a core's step is.
use Rattle.std.specs.Prelude.{◌≡◌, ℕ, ◌+◌, ◌-◌, Bool, if◌then◌else◌, List, [], length, fold, drop, map, Option, None, slice_get, slice_set, ◌⊎◌}
use Rattle.std.specs.Option.{option_map_or}
use Rattle.tta_kahn.specs.Cited.{IsPrefixOf}

-- ---- cores

-- What cores do: the step of each, by its number, from a state with the rest of its input to the next; whether a state waits for
-- a word, the rest of its input, what it has output, and the same state with another rest. And which core feeds each: its
-- outputs are the other's input; a core that no other feeds is given these words from outside.
pub record Network (S : Type 0) : Type 0 where
  pub step : (core : ℕ) → S → S
  pub waits : S → Bool
  pub rest : S → List ℕ
  pub output : S → List ℕ
  pub with_rest : S → List ℕ → S
  pub feeds : List (Option ℕ)
  pub given : (core : ℕ) → List ℕ

-- no words from outside
abbrev pub no_input : (core : ℕ) → List ℕ
no_input core = []

-- a core among others: its state, in which no input is kept, and how many words of its input it has taken
pub record NetworkCore (S : Type 0) : Type 0 where
  pub state : S
  pub taken : ℕ

-- ---- queues

-- what a core has output so far
abbrev pub output_of : {S : Type 0} → Network S → List (NetworkCore S) → (core : ℕ) → List ℕ
output_of net cores core = option_map_or (λ c. net.output c.state) (slice_get cores core) []

-- the core whose outputs are a core's input, if there is one
abbrev pub feeder_of : {S : Type 0} → Network S → (core : ℕ) → Option ℕ
feeder_of net core = option_map_or (λ feeder. feeder) (slice_get net.feeds core) None

-- what a core's feeder has output so far; of a core that no other feeds, all that it is given from outside
abbrev pub fed_to : {S : Type 0} → Network S → List (NetworkCore S) → (core : ℕ) → List ℕ
fed_to net cores core = option_map_or (output_of net cores) (feeder_of net core) (net.given core)

-- ---- steps

-- the state of a core once it has stepped, where this is the rest of its input
abbrev pub after_step : {S : Type 0} → Network S → (core : ℕ) → (input : List ℕ) → NetworkCore S → S
after_step net core input c = net.step core (net.with_rest c.state input)

-- A core after its step, where this is the rest of its input. A step that waits changes nothing.
abbrev pub stepped : {S : Type 0} → Network S → (core : ℕ) → (input : List ℕ) → NetworkCore S → NetworkCore S
stepped net core input c =
    if net.waits (after_step net core input c) then c
    else record {
      state = net.with_rest (after_step net core input c) [];
      taken = c.taken + (length input - length (net.rest (after_step net core input c)));
    }

-- The step of one core. Its input is what its feeder has output so far, less the words that it has taken.
abbrev pub turn : {S : Type 0} → Network S → List (NetworkCore S) → (core : ℕ) → List (NetworkCore S)
turn net cores core =
    option_map_or (λ c. slice_set cores core (stepped net core (drop c.taken (fed_to net cores core)) c)) (slice_get cores core) cores

-- the cores after these steps, where each number is that of the core that steps
abbrev pub interleaved : {S : Type 0} → Network S → List (NetworkCore S) → (steps : List ℕ) → List (NetworkCore S)
interleaved net cores steps = fold (turn net) cores steps

-- the cores are at rest: no step of any changes them
abbrev pub AreAtRest : {S : Type 0} → Network S → List (NetworkCore S) → Type 0
AreAtRest net cores = (core : ℕ) → turn net cores core ≡ cores

-- ---- outputs

-- one of two lists begins the other
abbrev pub AreComparable : List ℕ → List ℕ → Type 0
AreComparable xs ys = IsPrefixOf xs ys ⊎ IsPrefixOf ys xs

-- ---- first

-- cores that have made no step, in these states
abbrev pub joined : {S : Type 0} → List S → List (NetworkCore S)
joined starts = map (λ s. record { state = s; taken = 0 }) starts
