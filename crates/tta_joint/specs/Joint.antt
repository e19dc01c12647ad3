-- A clock of cores that are joined by queues.
use Rattle.std.specs.Prelude.{◌≡◌, ℕ, zero, suc, ◌==◌, Bool, true, false, not, ◌&&◌, ◌||◌, List, [], ◌∷◌, ◌++◌, drop, if◌then◌else◌, None, Some, slice_get}
use Rattle.tta_circuit.specs.Meaning.{is_set}
use Rattle.tta_queue.specs.Queue.{Pin, InData, OutValid, OutData}
use Rattle.tta_queue.specs.Laws.{takes, gives}
use Rattle.tta_list.specs.Prefix.{IsPrefixOf}
use Rattle.tta_kahn.specs.Network.{Network, NetworkCore, output_of, feeder_of, fed_to, after_step, stepped}

-- ---- which cores step

-- whether a core is among some
abbrev pub is_among : (core : ℕ) → List ℕ → Bool
is_among core [] = false
is_among core (c ∷ cs) = c == core || is_among core cs

-- whether none of them stands there twice
abbrev pub stand_once : List ℕ → Bool
stand_once [] = true
stand_once (c ∷ cs) = not (is_among c cs) && stand_once cs

-- Some cores make a step at once, each on words that it is shown, and the others stay.
pub record StepAtOnce {S : Type 0} (net : Network S) (shown : ℕ → List ℕ) (going : List ℕ) (before after : List (NetworkCore S)) : Type 0 where
  pub some : (core : ℕ) (c : NetworkCore S) → slice_get before core ≡ Some c
      → slice_get after core ≡ Some (if is_among core going then stepped net core (shown core) c else c)
  pub none : (core : ℕ) → slice_get before core ≡ None → slice_get after core ≡ None

-- ---- what queues show

-- what a core sees of its queue: the first word, if there is one
abbrev pub seen : (Pin → ℕ) → List ℕ
seen env = if is_set (env OutValid) then env OutData ∷ [] else []

-- what a queue takes at a clock
abbrev pub new_words : (Pin → ℕ) → List ℕ
new_words env = if takes env then env InData ∷ [] else []

-- A clock of cores, where these are the signals of each core's queue: each core that steps does so on what it sees, and does not wait;
-- its queue gives the word that it takes; and the queue of each core takes what its feeder outputs. The queue of a core that no other
-- feeds takes words from outside.
pub record CoresClock {S : Type 0} (net : Network S) (env : ℕ → Pin → ℕ) (going : List ℕ) (before after : List (NetworkCore S)) : Type 0 where
  pub apart : stand_once going ≡ true
  pub at_once : StepAtOnce net (λ core. seen (env core)) going before after
  pub goes : (core : ℕ) (c : NetworkCore S) → is_among core going ≡ true → slice_get before core ≡ Some c
      → net.waits (after_step net core (seen (env core)) c) ≡ false
  pub asks : (core : ℕ) (c : NetworkCore S) → is_among core going ≡ true → slice_get before core ≡ Some c
      → net.rest (after_step net core (seen (env core)) c) ≡ (if gives (env core) then [] else seen (env core))
  pub stays : (core : ℕ) → is_among core going ≡ false → gives (env core) ≡ false
  pub puts : (core feeder : ℕ) → feeder_of net core ≡ Some feeder
      → output_of net after feeder ≡ output_of net before feeder ++ new_words (env core)

-- ---- words from outside

-- the same network where only these words have come from outside
abbrev pub where_came : {S : Type 0} → Network S → (came : ℕ → List ℕ) → Network S
where_came net came = record net { given = came }

-- The words that have come begin what each core is given from outside.
abbrev pub HaveCome : {S : Type 0} → Network S → (came : ℕ → List ℕ) → Type 0
HaveCome net came = (core : ℕ) → feeder_of net core ≡ None → IsPrefixOf (came core) (net.given core)

-- what has come to the queue of each core after a clock
abbrev pub come_with : (came : ℕ → List ℕ) → (env : ℕ → Pin → ℕ) → ℕ → List ℕ
come_with came env core = came core ++ new_words (env core)

-- ---- many clocks

-- the steps of so many clocks, one after another
abbrev pub steps_by : (going : ℕ → List ℕ) → (n : ℕ) → List ℕ
steps_by going zero = []
steps_by going (suc n) = steps_by going n ++ going n

-- what is left for a core: what its feeder has output, or it is given from outside, and it has not taken
abbrev pub waiting_for : {S : Type 0} → Network S → List (NetworkCore S) → (core : ℕ) → NetworkCore S → List ℕ
waiting_for net cores core c = drop c.taken (fed_to net cores core)
