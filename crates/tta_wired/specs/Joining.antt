-- When the circuits of cores and of queues are joined as the module says that `rtl net` prints: by the ports of their modules and by its wires.
use Rattle.std.specs.Prelude.{◌≡◌, ℕ, zero, suc, ◌<◌, ◌≤◌, Bool, true, false, ◌&&◌, if◌then◌else◌, List, [], ◌∷◌, ◌++◌, Option, None, Some, is_some, length, slice_get}
use Rattle.std.specs.List.{AllByRecursion}
use Rattle.tta_list.specs.Prefix.{IsPrefixOf}
use Rattle.tta_ops.specs.Units.{Units}
use Rattle.tta_circuit.specs.Circuit.{Wire}
use Rattle.tta_circuit.specs.Meaning.{is_set, value}
use Rattle.tta_hardware.specs.Signals.{Signal as Named, IsOffered, Offer, IsReady, IsReset, HasHalted, Goes, PutWord}
use Rattle.tta_hardware.specs.Pins.{out_valid, in_ready}
use Rattle.tta_hardware.specs.Stands.{Hardware}
use Rattle.tta_queue.specs.Queue.{Pin}
use Rattle.tta_queue.specs.Queue as queue
use Rattle.tta_kahn.specs.declared.cores.Core.{Core}
use Rattle.tta_board.specs.Board.{Board, Inputs, Powers, lines, pins_of, board_at}
use Rattle.tta_wiring.specs.Signals.{Joint, Reset, Outside, Offers, Offer, Word, Room, CorePort, ResetOf, HaltedOf, CycleOf, OutValid, OutData, OutReady, InValid, InData, InReady, source_at, is_outside, core_wires, queue_wires, word_valid, core_joints, queue_joints}

-- ---- ports

-- The word of a port of a core's module: an input of its circuit, or what a signal of it shows. `shown_text` of tta_rtl says the same of
-- the ports as a text.
abbrev pub core_port : Units → Hardware → (env inputs : Named → ℕ) → CorePort → ℕ
core_port u h env inputs ResetOf = inputs IsReset
core_port u h env inputs HaltedOf = env HasHalted
core_port u h env inputs CycleOf = env Goes
core_port u h env inputs OutValid = value u h.memories env out_valid
core_port u h env inputs OutData = env PutWord
core_port u h env inputs OutReady = inputs IsReady
core_port u h env inputs InValid = inputs IsOffered
core_port u h env inputs InData = inputs Offer
core_port u h env inputs InReady = value u h.memories env in_ready

-- The same of a port of a queue's module (`queue_shown` of tta_wiring).
abbrev pub queue_port : (env inputs : Pin → ℕ) → CorePort → ℕ
queue_port env inputs ResetOf = inputs queue.IsReset
queue_port env inputs InValid = inputs queue.InValid
queue_port env inputs InData = inputs queue.InData
queue_port env inputs InReady = env queue.InReady
queue_port env inputs OutValid = env queue.OutValid
queue_port env inputs OutData = env queue.OutData
queue_port env inputs OutReady = inputs queue.OutReady
queue_port env inputs p = 0

-- ports have the words of the signals that they are joined to
abbrev pub AreJoined : (port : CorePort → ℕ) → (signals : Joint → ℕ) → List (CorePort × Joint) → Type 0
AreJoined port signals joints = AllByRecursion (λ j. port j.0 ≡ signals j.1) joints

-- wires have the words of their expressions
abbrev pub HaveWords : Units → (signals : Joint → ℕ) → List (Wire Joint ⊥) → Type 0
HaveWords u signals wires = AllByRecursion (λ w. signals w.name ≡ value u (λ m. []) signals w.word) wires

-- ---- the module at a clock

-- Links of cores: of each core they say which core feeds it, if one does, and that core is there.
pub record AreLinked (cores : List Core) (feeds : List (Option ℕ)) : Type 0 where
  pub count : length feeds ≡ length cores
  pub feeders : (core feeder : ℕ) → slice_get feeds core ≡ Some (Some feeder) → is_some (slice_get cores feeder) ≡ true

-- Where there is no core, a queue is offered nothing and asked for nothing.
pub record IsUnused (i : Inputs) (core : ℕ) : Type 0 where
  pub offered : is_set (i.queues core queue.InValid) ≡ false
  pub asked : is_set (i.queues core queue.OutReady) ≡ false
  pub reset : is_set (i.queues core queue.IsReset) ≡ i.reset

-- whether the words of a core come from outside, of cores that can take words or not
abbrev pub is_open : (feeds : List (Option ℕ)) → (takes : ℕ → Bool) → (core : ℕ) → Bool
is_open feeds takes core = is_outside (source_at feeds core (takes core))

-- Cores with their code; which core feeds each; which can take words; the words with which the data space of each begins; and a queue of
-- 2^k words before each.
module _ (u : Units) (cores : List Core) (feeds : List (Option ℕ)) (takes : ℕ → Bool) (memories : ℕ → List ℕ) (k : ℕ → ℕ) where
  -- At a clock the circuits of cores and of queues are joined as the module says, where these are the words of its signals: each port has
  -- the word of its signal, and each wire that of its expression.
  pub record AreNet (b : Board) (i : Inputs) (signals : Joint → ℕ) : Type 0 where
    pub of_core : (n : ℕ) (c : Core) → slice_get cores n ≡ Some c
        → AreJoined (core_port u (b.cores n) (lines u cores feeds memories k b i n c) (i.cores n)) signals (core_joints n)
    pub of_queue : (n : ℕ) → n < length cores
        → AreJoined (queue_port (pins_of u cores feeds memories k b i n) (i.queues n)) signals (queue_joints n)
    pub wires_of_core : (n : ℕ) → n < length cores → HaveWords u signals (core_wires feeds n)
    pub wires_of_queue : (n : ℕ) → n < length cores → HaveWords u signals (queue_wires n (source_at feeds n (takes n)))
    pub reset : is_set (signals Reset) ≡ i.reset
    pub outside : (n : ℕ) → n < length cores → is_set (signals (Outside n)) ≡ i.outside n
    pub none : (n : ℕ) → slice_get cores n ≡ None → IsUnused i n

  -- ---- the module at all clocks

  module _ (powers : Powers) (i : ℕ → Inputs) (signals : ℕ → Joint → ℕ) where
    -- Clocks of the module: its circuits are joined at each; those up to a number begin anew, and no later one does.
    pub record AreNetClocks (last : ℕ) : Type 0 where
      pub joined : (t : ℕ) → AreNet (board_at u cores feeds memories k powers i t) (i t) (signals t)
      pub reset : (t : ℕ) → t ≤ last → is_set (signals t Reset) ≡ true
      pub on : (t : ℕ) → last < t → is_set (signals t Reset) ≡ false

    -- whether a word of a core goes to the outside at a clock: the module shows one, and the outside takes it
    abbrev pub passes : (core t : ℕ) → Bool
    passes core t = is_set (value u (λ m. []) (signals t) (word_valid core)) && is_set (signals t (Outside core))

    -- the words that have gone to the outside at the ports of a core by so many clocks
    abbrev pub passed_by : (core : ℕ) → ℕ → List ℕ
    passed_by core zero = []
    passed_by core (suc t) = passed_by core t ++ (if passes core t then signals t (Word core) ∷ [] else [])

    -- whether a word comes in from outside at a clock: the core has ports for it, the outside offers one, and the module shows that
    -- there is room
    abbrev pub enters : (core t : ℕ) → Bool
    enters core t = is_open feeds takes core && (is_set (signals t (Offers core)) && is_set (signals t (Room core)))

    -- the words that have come in from outside at the ports of a core by so many clocks
    abbrev pub entered_by : (core : ℕ) → ℕ → List ℕ
    entered_by core zero = []
    entered_by core (suc t) = entered_by core t ++ (if enters core t then signals t (Offer core) ∷ [] else [])

    -- What has come in by so many clocks begins what each core is given.
    abbrev pub HaveEntered : (given : ℕ → List ℕ) → (t : ℕ) → Type 0
    HaveEntered given t = (core : ℕ) → core < length cores → is_open feeds takes core ≡ true → IsPrefixOf (entered_by core t) (given core)
