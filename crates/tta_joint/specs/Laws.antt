-- What cores that step at one clock come to.
use Rattle.std.specs.Prelude.{◌≡◌, ℕ, suc, ◌+◌, ◌≤◌, true, false, List, [], ◌++◌, length, Some, slice_get}
use Rattle.tta_ops.specs.Units.{Units}
use Rattle.tta_circuit.specs.Meaning.{Held, is_set, settled, clocked}
use Rattle.tta_queue.specs.Queue.{Pin, IsReset, Store, same_pin, same_store, queue_of}
use Rattle.tta_queue.specs.Laws.{HasInside, queue, pins, taken, BeginUpTo}
use Rattle.tta_kahn.specs.Network.{Network, NetworkCore, joined, fed_to, output_of, after_step, interleaved}
use Rattle.tta_kahn.specs.Queues.{UsesQueues}
use Rattle.tta_joint.specs.Joint.{is_among, stand_once, StepAtOnce, CoresClock, where_came, HaveCome, come_with, steps_by, waiting_for}

-- ---- one clock

-- What a core is shown of its queue is how the queue begins, and it need not wait for more.
pub record IsShown {S : Type 0} (net : Network S) (cores : List (NetworkCore S)) (core : ℕ) (shown : List ℕ) (c : NetworkCore S) : Type 0 where
  pub within : c.taken ≤ length (fed_to net cores core)
  pub later : List ℕ
  pub begins : waiting_for net cores core c ≡ shown ++ later
  pub goes : net.waits (after_step net core shown c) ≡ false

-- One clock: cores that step at once on what they are shown of their queues come to what they come to one after another.
abbrev pub ClocksInterleave : (S : Type 0) → Type 0
ClocksInterleave S =
    (net : Network S) → UsesQueues net → (shown : ℕ → List ℕ) (going : List ℕ) (before after : List (NetworkCore S)) → stand_once going ≡ true
    → ((core : ℕ) (c : NetworkCore S) → is_among core going ≡ true → slice_get before core ≡ Some c → IsShown net before core (shown core) c)
    → StepAtOnce net shown going before after → after ≡ interleaved net before going

-- A core's queue, which holds this, has what is left for the core.
pub record IsQueued (k : ℕ) (h : Held Pin Store) {S : Type 0} (net : Network S) (cores : List (NetworkCore S)) (core : ℕ) (c : NetworkCore S)
    : Type 0 where
  pub within : c.taken ≤ length (fed_to net cores core)
  pub inside : HasInside k h (waiting_for net cores core c)

-- So it is with each core.
abbrev pub AreQueued : (k : ℕ → ℕ) (h : ℕ → Held Pin Store) → {S : Type 0} → Network S → List (NetworkCore S) → Type 0
AreQueued k h {S} net cores = (core : ℕ) (c : NetworkCore S) → slice_get cores core ≡ Some c → IsQueued (k core) (h core) net cores core c

-- One clock of cores and their queues that does not begin anew, where each queue has what its core has not taken of its feeder's words, or
-- of those that have come from outside: it is the steps of those cores that step, one after another, and then each queue has what its core
-- has not taken. What has come begins what cores are given.
abbrev pub JointClock : (S : Type 0) → Type 0
JointClock S =
    (net : Network S) → UsesQueues net → (came : ℕ → List ℕ) → HaveCome net came → (u : Units) (k : ℕ → ℕ) (width : ℕ)
    (h : ℕ → Held Pin Store) (inputs : ℕ → Pin → ℕ) (going : List ℕ) (before after : List (NetworkCore S))
    → AreQueued k h (where_came net came) before → ((core : ℕ) → is_set (inputs core IsReset) ≡ false)
    → let env : ℕ → Pin → ℕ = λ core. settled same_pin u (queue_of (k core) width) (h core) (inputs core) in
    CoresClock net env going before after
    → (after ≡ interleaved net before going)
    × AreQueued k (λ core. clocked same_pin same_store u (queue_of (k core) width) (env core) (h core))
    (where_came net (come_with came env)) after

-- ---- any number of clocks

-- the words that the queue of each core has taken by so many clocks
abbrev pub come_by : (u : Units) (k : ℕ → ℕ) (width : ℕ) (powers : ℕ → Pin → ℕ) (inputs : ℕ → ℕ → Pin → ℕ) (t : ℕ) → ℕ → List ℕ
come_by u k width powers inputs t core = taken u (k core) width (powers core) (inputs core) t

-- After so many clocks cores are where these steps lead from their starts, and their queues have what they have not taken.
pub record HaveJoined (u : Units) (k : ℕ → ℕ) (width : ℕ) (powers : ℕ → Pin → ℕ) (inputs : ℕ → ℕ → Pin → ℕ) (t : ℕ) {S : Type 0}
    (net : Network S) (starts : List S) (steps : List ℕ) (cores : List (NetworkCore S)) : Type 0 where
  pub lead : cores ≡ interleaved net (joined starts) steps
  pub queued : AreQueued k (λ core. queue u (k core) width (powers core) (inputs core) t)
      (where_came net (come_by u k width powers inputs t)) cores

-- Clocks of which those up to a number begin anew, and any number of further ones of cores with queues of any sizes, which are circuits:
-- these are the cores after so many further clocks, and those that step at the next. What has come from outside by then, whatever was
-- offered and at whatever clocks, begins what cores are given.
abbrev pub JointRuns : (S : Type 0) → Type 0
JointRuns S =
    (net : Network S) → UsesQueues net → (starts : List S) → ((core : ℕ) → output_of net (joined starts) core ≡ [])
    → (u : Units) (k : ℕ → ℕ) (width : ℕ) (powers : ℕ → Pin → ℕ) (inputs : ℕ → ℕ → Pin → ℕ) (last : ℕ)
    → ((core : ℕ) → BeginUpTo last (inputs core)) → (going : ℕ → List ℕ) (cores : ℕ → List (NetworkCore S)) → cores 0 ≡ joined starts
    → ((n : ℕ) → CoresClock net (λ core. pins u (k core) width (powers core) (inputs core) (suc (last + n))) (going n) (cores n)
    (cores (suc n)))
    → (n : ℕ) → HaveCome net (come_by u k width powers inputs (suc (last + n)))
    → HaveJoined u k width powers inputs (suc (last + n)) net starts (steps_by going n) (cores n)
