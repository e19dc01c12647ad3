-- Which cores of a network can make a cycle, where the queues between them have finitely many words.
use Rattle.std.specs.Prelude.{ℕ, ◌^◌, Bool, not, ◌&&◌, ◌||◌, nat_lt, List, [], length, Option, slice_get}
use Rattle.std.specs.Option.{option_map_or}
use Rattle.tta_ops.specs.Units.{Units}
use Rattle.tta_code.specs.Cycle.{State}
use Rattle.tta_hardware.specs.Stands.{is_halted}
use Rattle.tta_kahn.specs.declared.cores.Core.{Core}
use Rattle.tta_kahn.specs.Network.{NetworkCore, after_step}
use Rattle.tta_kahn.specs.Cluster.{cycles_given}
use Rattle.tta_joint.specs.Joint.{waiting_for}
use Rattle.tta_board.specs.Board.{have_room}

-- Cores with their code; which core feeds each; the words that have come from outside; and queues of 2^k words.
module _ (u : Units) (cores : List Core) (feeds : List (Option ℕ)) (came : ℕ → List ℕ) (k : ℕ → ℕ) where
  -- the words that are in the queue before a core
  abbrev pub in_queue : List (NetworkCore State) → (core : ℕ) → List ℕ
  in_queue joined core = option_map_or (λ j. waiting_for (cycles_given u cores feeds came) joined core j) (slice_get joined core) []

  -- whether the queue before a core has room
  abbrev pub has_room : List (NetworkCore State) → (core : ℕ) → Bool
  has_room joined core = nat_lt (length (in_queue joined core)) (2 ^ k core)

  -- whether a core puts a word out on the way from one state to another
  abbrev pub puts_between : (before after : State) → Bool
  puts_between before after = nat_lt (length before.output) (length after.output)

  -- Whether a core can make its next cycle, where the outside would take a word of some cores: it has not halted; it does not wait for a
  -- word that its queue does not have; and where it puts a word out, the outside takes it and each queue that the core feeds has room.
  abbrev pub can_go : (outside : ℕ → Bool) → List (NetworkCore State) → (core : ℕ) → NetworkCore State → Bool
  can_go outside joined core j =
      let net = cycles_given u cores feeds came in
      let next = after_step net core (waiting_for net joined core j) j in
      not (is_halted j.state.outcome)
      && (not (net.waits next) && (not (puts_between j.state next) || (outside core && have_room (has_room joined) core 0 feeds)))

  -- whether a core has a word to put out: it has not halted, it does not wait, and its next cycle puts one out
  abbrev pub has_word_to_put : List (NetworkCore State) → (core : ℕ) → NetworkCore State → Bool
  has_word_to_put joined core j =
      let net = cycles_given u cores feeds came in
      let next = after_step net core (waiting_for net joined core j) j in
      not (is_halted j.state.outcome) && (not (net.waits next) && puts_between j.state next)
