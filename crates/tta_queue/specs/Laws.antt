-- What a queue does, clock by clock, and that a text can say it.
use Rattle.std.specs.Prelude.{◌≡◌, ℕ, zero, suc, ◌+◌, ◌%◌, ◌^◌, ◌<◌, ◌≤◌, ◌==◌, Bool, true, false, not, ◌&&◌, nat_lt, List, [], ◌∷◌, ◌++◌, length, drop, slice_index, if◌then◌else◌}
use Rattle.tta_ops.specs.Units.{Units}
use Rattle.tta_circuit.specs.Meaning.{Held, is_set, settled, clocked, powered, held_from}
use Rattle.tta_circuit.specs.Order.{is_ordered}
use Rattle.tta_circuit.specs.Plain.{IsPlain}
use Rattle.tta_circuit.specs.Closed.{IsClosed, are_apart, signals_of}
use Rattle.tta_circuit.specs.Laws.{TellsApart}
use Rattle.tta_queue.specs.Queue.{Pin, InValid, InData, OutReady, IsReset, Head, Tail, InReady, OutValid, OutData, Store, Words, same_pin, same_store, queue_of, pin_width, store_width, rank}

-- ---- one clock

-- Words stand one after another in a memory of 2^k words, from the head on to the tail and around the end. Both have one bit more than
-- an address has.
pub record Stand (k head tail : ℕ) (memory words : List ℕ) : Type 0 where
  pub first : ℕ
  pub starts : head ≡ first % 2 ^ (1 + k)
  pub ends : tail ≡ (first + length words) % 2 ^ (1 + k)
  pub fits : length words ≤ 2 ^ k
  pub size : length memory ≡ 2 ^ k
  pub places : (i : ℕ) → i < length words → slice_index memory ((first + i) % 2 ^ k) ≡ slice_index words i

-- A queue of 2^k words has these in it: they stand in its memory, and the first is in the register of the first word.
pub record HasInside (k : ℕ) (h : Held Pin Store) (words : List ℕ) : Type 0 where
  pub stand : Stand k (h.words Head) (h.words Tail) (h.memories Words) words
  pub first : (w : ℕ) (rest : List ℕ) → words ≡ w ∷ rest → h.words OutData ≡ w

-- whether a word is taken at a clock, and whether one is given
abbrev pub takes : (Pin → ℕ) → Bool
takes env = is_set (env InValid) && is_set (env InReady)

abbrev pub gives : (Pin → ℕ) → Bool
gives env = is_set (env OutValid) && is_set (env OutReady)

-- the words in a queue after a clock
abbrev pub after_clock : (gives takes : Bool) → (word : ℕ) → List ℕ → List ℕ
after_clock gives takes word words = (if gives then drop 1 words else words) ++ (if takes then word ∷ [] else [])

-- What a queue with these words shows: whether it has room, whether it has a word, and the first.
pub record Shows (k : ℕ) (env : Pin → ℕ) (words : List ℕ) : Type 0 where
  pub ready : is_set (env InReady) ≡ nat_lt (length words) (2 ^ k)
  pub valid : is_set (env OutValid) ≡ not (length words == 0)
  pub word : (w : ℕ) (rest : List ℕ) → words ≡ w ∷ rest → env OutData ≡ w

-- A clock of a queue that does not begin anew, whatever else comes in: it shows its words as they are, and then has those that the
-- clock leaves.
abbrev pub QueueClocks : Type 0
QueueClocks =
    (u : Units) (k width : ℕ) (h : Held Pin Store) (words : List ℕ) (inputs : Pin → ℕ) → HasInside k h words
    → is_set (inputs IsReset) ≡ false
    → let env = settled same_pin u (queue_of k width) h inputs in
    Shows k env words
    × HasInside k (clocked same_pin same_store u (queue_of k width) env h)
    (after_clock (gives env) (takes env) (inputs InData) words)

-- What a clock that begins anew makes of a queue: it takes nothing and gives nothing, keeps its memory, and then has no words.
pub record HasBegun (k : ℕ) (env : Pin → ℕ) (before after : Held Pin Store) : Type 0 where
  pub untaken : takes env ≡ false
  pub ungiven : gives env ≡ false
  pub kept : after.memories Words ≡ before.memories Words
  pub empty : HasInside k after []

-- A clock that begins anew, whatever a queue held before.
abbrev pub QueueBegins : Type 0
QueueBegins =
    (u : Units) (k width : ℕ) (h : Held Pin Store) (inputs : Pin → ℕ) → length (h.memories Words) ≡ 2 ^ k
    → is_set (inputs IsReset) ≡ true
    → let env = settled same_pin u (queue_of k width) h inputs in
    HasBegun k env h (clocked same_pin same_store u (queue_of k width) env h)

-- ---- any number of clocks

module _ (u : Units) (k width : ℕ) (powers : Pin → ℕ) (inputs : ℕ → Pin → ℕ) where
  -- what a queue holds after so many clocks, where its registers had these words before them
  abbrev pub queue : ℕ → Held Pin Store
  queue t = held_from same_pin same_store u (queue_of k width) (powered same_pin same_store (queue_of k width) powers) inputs t

  -- the words of its signals before the next clock
  abbrev pub pins : ℕ → Pin → ℕ
  pins t = settled same_pin u (queue_of k width) (queue t) (inputs t)

  -- the words that it has taken by then
  abbrev pub taken : ℕ → List ℕ
  taken zero = []
  taken (suc t) = taken t ++ (if takes (pins t) then pins t InData ∷ [] else [])

  -- the words that it has given
  abbrev pub given : ℕ → List ℕ
  given zero = []
  given (suc t) = given t ++ (if gives (pins t) then pins t OutData ∷ [] else [])

  -- After so many clocks these words are in a queue: what it took is what it gave and they, in order.
  pub record HasQueued (t : ℕ) : Type 0 where
    pub words : List ℕ
    pub inside : HasInside k (queue t) words
    pub order : taken t ≡ given t ++ words
    pub fits : length words ≤ 2 ^ k

-- Clocks of which those up to a number begin anew, and no later one does.
pub record BeginUpTo (last : ℕ) (inputs : ℕ → Pin → ℕ) : Type 0 where
  pub reset : (t : ℕ) → t ≤ last → is_set (inputs t IsReset) ≡ true
  pub on : (t : ℕ) → last < t → is_set (inputs t IsReset) ≡ false

-- After clocks that begin anew, at least one, and any number of further ones, whatever else comes in, and whatever words the registers
-- have when the power comes.
abbrev pub QueueHolds : Type 0
QueueHolds =
    (u : Units) (k width : ℕ) (powers : Pin → ℕ) (inputs : ℕ → Pin → ℕ) (last : ℕ) → BeginUpTo last inputs → (t : ℕ) → last < t
    → (q : HasQueued u k width powers inputs t) × Shows k (pins u k width powers inputs t) q.words

-- ---- no way through

-- What a queue shows at a clock is the same for all words that are offered to it and whether or not one is asked for, so that a circuit
-- that offers or asks by what the queue shows closes no loop.
abbrev pub QueueLooks : Type 0
QueueLooks =
    (u : Units) (k width : ℕ) (h : Held Pin Store) (inputs others : Pin → ℕ) → inputs IsReset ≡ others IsReset
    → let one = settled same_pin u (queue_of k width) h inputs in
    let other = settled same_pin u (queue_of k width) h others in
    (one InReady ≡ other InReady) × ((one OutValid ≡ other OutValid) × (one OutData ≡ other OutData))

-- ---- a text

-- A text can say a queue as it stands: its names are told apart, and each stands once; its wires stand in order; it reads only signals
-- that it has; and all of its parts have bits, and the widths that their places ask for.
pub record IsSaid (k width : ℕ) : Type 0 where
  pub pins : TellsApart same_pin
  pub stores : TellsApart same_store
  pub apart : are_apart same_pin (signals_of (queue_of k width)) ≡ true
  pub order : is_ordered rank 1 (queue_of k width).wires ≡ true
  pub closed : IsClosed same_pin (queue_of k width)
  pub plain : IsPlain (pin_width k width) (store_width width) (queue_of k width)

-- So it is with every queue of more words than one, where the words have bits.
abbrev pub QueueIsSaid : Type 0
QueueIsSaid = (k width : ℕ) → 0 < k → 0 < width → IsSaid k width
