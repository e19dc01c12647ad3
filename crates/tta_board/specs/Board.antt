-- Machines as circuits that are joined by queues as circuits, all under one clock.
use Rattle.std.specs.Prelude.{◌≡◌, ℕ, zero, suc, ◌<◌, ◌≤◌, ◌==◌, Bool, true, false, not, ◌&&◌, ◌||◌, List, [], ◌∷◌, ◌++◌, Option, Some, None, slice_get, if◌then◌else◌}
use Rattle.std.specs.Option.{option_map_or}
use Rattle.tta_board.specs.Cited.{Units, Held, is_set, settled, clocked, powered, IsOffered, Offer, IsReady, IsReset, Asks, Goes, Puts, PutWord, same_signal, same_store, circuit_of, Hardware, Pin, InValid, InData, OutReady, InReady, OutValid, OutData, same_pin, queue_of, Core, no_input, feeder_of, cycles, come_with}
use Rattle.tta_hardware.specs.Signals.{Signal as Named}
use Rattle.tta_queue.specs.Queue as queue

-- ---- what there is

-- what the circuits hold: that of each core, and that of the queue before it
pub record Board : Type 0 where
  pub cores : ℕ → Hardware
  pub queues : ℕ → Held Pin queue.Store

-- What comes in at a clock: the inputs of each core's circuit and of the queue before it, among them what the outside offers to the queue
-- of a core that no other feeds; whether all of them begin anew; and whether the outside would take a word that a core puts out.
pub record Inputs : Type 0 where
  pub cores : ℕ → Named → ℕ
  pub queues : ℕ → Pin → ℕ
  pub reset : Bool
  pub outside : ℕ → Bool

-- the words that registers have when the power comes
pub record Powers : Type 0 where
  pub cores : ℕ → Named → ℕ
  pub queues : ℕ → Pin → ℕ

-- whether a core is the feeder
abbrev pub is_feeder : (feeder : ℕ) → Option ℕ → Bool
is_feeder feeder o = option_map_or (λ f. f == feeder) o false

-- Whether each queue that a core feeds has room, of those from a number on; a word goes to all of them at once, or to none.
abbrev pub have_room : (ready : ℕ → Bool) → (feeder core : ℕ) → (feeds : List (Option ℕ)) → Bool
have_room ready feeder core [] = true
have_room ready feeder core (o ∷ feeds) = (not (is_feeder feeder o) || ready core) && have_room ready feeder (suc core) feeds

-- Cores with their code; which core feeds each; the words with which the data space of each begins; and a queue of 2^k words before each.
module _ (u : Units) (cores : List Core) (feeds : List (Option ℕ)) (memories : ℕ → List ℕ) (k : ℕ → ℕ) where
  -- the words of the signals of a core
  abbrev pub lines : Board → Inputs → (core : ℕ) → Core → Named → ℕ
  lines b i core c = settled same_signal u (circuit_of c.machine c.code (memories core)) (b.cores core) (i.cores core)

  -- and of those of its queue
  abbrev pub pins_of : Board → Inputs → (core : ℕ) → Pin → ℕ
  pins_of b i core = settled same_pin u (queue_of (k core) 32) (b.queues core) (i.queues core)

  -- ---- wires

  -- The wires of a core: it is offered what its queue shows; its words would be taken where each queue that it feeds has room and the
  -- outside would take them; and its queue is asked where the core takes a word.
  pub record IsWiredCore (b : Board) (i : Inputs) (core : ℕ) (c : Core) : Type 0 where
    pub offered : is_set (i.cores core IsOffered) ≡ is_set (pins_of b i core OutValid)
    pub offer : i.cores core Offer ≡ pins_of b i core OutData
    pub ready : is_set (i.cores core IsReady)
        ≡ (i.outside core && have_room (λ other. is_set (pins_of b i other InReady)) core 0 feeds)
    pub reset : is_set (i.cores core IsReset) ≡ i.reset
    pub asked : is_set (i.queues core OutReady) ≡ (is_set (lines b i core c Goes) && is_set (lines b i core c Asks))

  -- The wires between circuits: each queue is offered what the core's feeder puts out, if it has one, and is asked by its core alone. The
  -- queue of a core that no other feeds is offered whatever the outside offers.
  pub record AreWired (b : Board) (i : Inputs) : Type 0 where
    pub each : (core : ℕ) (c : Core) → slice_get cores core ≡ Some c → IsWiredCore b i core c
    pub unasked : (core : ℕ) → slice_get cores core ≡ None → is_set (i.queues core OutReady) ≡ false
    pub fed : (core feeder : ℕ) (f : Core) → feeder_of (cycles u cores feeds) core ≡ Some feeder → slice_get cores feeder ≡ Some f
        → (is_set (i.queues core InValid) ≡ is_set (lines b i feeder f Puts)) × (i.queues core InData ≡ lines b i feeder f PutWord)
    pub no_core : (core feeder : ℕ) → feeder_of (cycles u cores feeds) core ≡ Some feeder → slice_get cores feeder ≡ None
        → is_set (i.queues core InValid) ≡ false
    pub reset : (core : ℕ) → is_set (i.queues core queue.IsReset) ≡ i.reset

  -- ---- clocks

  -- what a core's circuit holds after a clock
  abbrev pub core_after : Board → Inputs → (core : ℕ) → Option Core → Hardware
  core_after b i core None = b.cores core
  core_after b i core (Some c) =
      clocked same_signal same_store u (circuit_of c.machine c.code (memories core)) (lines b i core c) (b.cores core)

  -- a clock of all circuits
  abbrev pub board_after : Board → Inputs → Board
  board_after b i = record {
    cores = λ core. core_after b i core (slice_get cores core);
    queues = λ core. clocked same_pin queue.same_store u (queue_of (k core) 32) (pins_of b i core) (b.queues core);
  }

  -- what a core's circuit holds before the first clock
  abbrev pub core_first : Powers → (core : ℕ) → Option Core → Hardware
  core_first powers core None = record { words = powers.cores core; memories = λ m. [] }
  core_first powers core (Some c) = powered same_signal same_store (circuit_of c.machine c.code (memories core)) (powers.cores core)

  module _ (powers : Powers) (i : ℕ → Inputs) where
    -- what all circuits hold after so many clocks
    abbrev pub board_at : ℕ → Board
    board_at zero = record {
      cores = λ core. core_first powers core (slice_get cores core);
      queues = λ core. powered same_pin queue.same_store (queue_of (k core) 32) (powers.queues core);
    }
    board_at (suc t) = board_after (board_at t) (i t)

    -- the words that a core has put out at these clocks
    abbrev pub put_by : (core : ℕ) → Core → ℕ → List ℕ
    put_by core c zero = []
    put_by core c (suc t) =
        put_by core c t
        ++ (if is_set (lines (board_at t) (i t) core c Puts) then lines (board_at t) (i t) core c PutWord ∷ [] else [])

    -- The words that the queue of each core has taken at these clocks: of a core that no other feeds, what has come from outside.
    abbrev pub came_by : ℕ → ℕ → List ℕ
    came_by zero = no_input
    came_by (suc t) = come_with (came_by t) (pins_of (board_at t) (i t))

    -- Clocks of a board whose circuits are wired: those up to a number begin anew, and no later one does.
    pub record AreBoardClocks (last : ℕ) : Type 0 where
      pub wired : (t : ℕ) → AreWired (board_at t) (i t)
      pub reset : (t : ℕ) → t ≤ last → (i t).reset ≡ true
      pub on : (t : ℕ) → last < t → (i t).reset ≡ false
