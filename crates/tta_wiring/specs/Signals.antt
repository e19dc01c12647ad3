-- The signals of the module that joins cores by queues, and its wires.
use Rattle.std.specs.Prelude.{ℕ, ◌+◌, ◌==◌, Bool, true, false, if◌then◌else◌, List, [], ◌∷◌, Option, None, Some, slice_get, codes}
use Rattle.std.specs.Option.{option_map_or}
use Rattle.tta_circuit.specs.Circuit.{Expr, Const, Signal, Both, Wire}
use Rattle.tta_verilog.specs.Expressions.{Names}
use Rattle.tta_wiring.specs.declared.part.Source.{Source}
use Rattle.tta_wiring.specs.declared.part.Source.TheVariants as source
use Rattle.tta_wiring.specs.Queues.{numbered}

-- Its signals, most of them one for each core. The input `Reset` says whether all begins anew, and `Outside` whether the outside would
-- take a word of a core; `Offers` whether it offers one to the queue before a core that no other feeds, and `Offer` is that word. A core
-- shows whether it has halted, whether it carries an instruction out, whether it has a word to put out, that word, and whether it would
-- take one; the queue before it, whether it has room, whether it has a word, and the first. The wires are whether each queue that a core
-- feeds has room, whether a word of the core would be taken, whether it puts one out, and whether it takes one; and whether its queue is
-- offered a word, and that word.
pub data Joint : Type 0 where
  Reset : Joint
  Outside : (core : ℕ) → Joint
  Offers : (core : ℕ) → Joint
  Offer : (core : ℕ) → Joint
  Halted : (core : ℕ) → Joint
  Cycle : (core : ℕ) → Joint
  Valid : (core : ℕ) → Joint
  Word : (core : ℕ) → Joint
  Asks : (core : ℕ) → Joint
  Room : (core : ℕ) → Joint
  HasWord : (core : ℕ) → Joint
  First : (core : ℕ) → Joint
  Rooms : (core : ℕ) → Joint
  Ready : (core : ℕ) → Joint
  Puts : (core : ℕ) → Joint
  Takes : (core : ℕ) → Joint
  Fed : (core : ℕ) → Joint
  Comes : (core : ℕ) → Joint

-- what its signals are called
abbrev pub joint_name : Joint → List ℕ
joint_name Reset = codes "reset"
joint_name (Outside core) = numbered (codes "out_ready_") core
joint_name (Offers core) = numbered (codes "in_valid_") core
joint_name (Offer core) = numbered (codes "in_data_") core
joint_name (Halted core) = numbered (codes "halted_") core
joint_name (Cycle core) = numbered (codes "cycle_") core
joint_name (Valid core) = numbered (codes "valid_") core
joint_name (Word core) = numbered (codes "word_") core
joint_name (Asks core) = numbered (codes "asks_") core
joint_name (Room core) = numbered (codes "room_") core
joint_name (HasWord core) = numbered (codes "has_word_") core
joint_name (First core) = numbered (codes "first_") core
joint_name (Rooms core) = numbered (codes "rooms_") core
joint_name (Ready core) = numbered (codes "ready_") core
joint_name (Puts core) = numbered (codes "puts_") core
joint_name (Takes core) = numbered (codes "takes_") core
joint_name (Fed core) = numbered (codes "fed_") core
joint_name (Comes core) = numbered (codes "comes_") core

-- all of them; it has no memories of its own
abbrev pub joint_names : Names Joint ⊥
joint_names = record { signal = joint_name; memory = λ m. []; is_constant = λ m. false; op = λ op. [] }

-- ---- wires

-- whether a core is the feeder
abbrev pub is_feeder : (feeder : ℕ) → Option ℕ → Bool
is_feeder feeder o = option_map_or (λ f. f == feeder) o false

-- Whether each queue that a core feeds has room, of those from a number on (`have_room` of tta_board).
abbrev pub rooms_of : (feeder core : ℕ) → (feeds : List (Option ℕ)) → Expr Joint ⊥
rooms_of feeder core [] = Const 1 1
rooms_of feeder core (o ∷ feeds) =
    if is_feeder feeder o then Both (Signal (Room core)) (rooms_of feeder (core + 1) feeds) else rooms_of feeder (core + 1) feeds

-- What a core's word and its wish for a word become, where this core feeds each: the word is taken where each queue that the core feeds
-- has room and the outside takes it (`ready` of IsWiredCore), so that it goes to all of them at once or to none; and a word is put out or
-- taken at a clock at which the core carries its instruction out (`Puts`; `asked`).
abbrev pub core_wires : (feeds : List (Option ℕ)) → (core : ℕ) → List (Wire Joint ⊥)
core_wires feeds core =
    record { name = Rooms core; width = 1; word = rooms_of core 0 feeds }
    ∷ record { name = Ready core; width = 1; word = Both (Signal (Outside core)) (Signal (Rooms core)) }
    ∷ record { name = Puts core; width = 1; word = Both (Signal (Cycle core)) (Signal (Valid core)) }
    ∷ record { name = Takes core; width = 1; word = Both (Signal (Cycle core)) (Signal (Asks core)) } ∷ []

-- whether a word of a core stands there for the outside: it has one, and each queue that it feeds has room
abbrev pub word_valid : (core : ℕ) → Expr Joint ⊥
word_valid core = Both (Signal (Valid core)) (Signal (Rooms core))

-- ---- what queues are offered

-- which core feeds a core, if one does
abbrev pub feeder_at : (feeds : List (Option ℕ)) → (core : ℕ) → Option ℕ
feeder_at feeds core = option_map_or (λ f. f) (slice_get feeds core) None

-- where the words of a core come from: from its feeder; where it has none, from outside, if its machine can take words; and else from
-- nowhere
abbrev pub source_of : (takes : Bool) → (feeder : Option ℕ) → Source
source_of takes None = if takes then source.Outside else source.Nothing
source_of takes (Some feeder) = source.Feeder feeder

abbrev pub source_at : (feeds : List (Option ℕ)) → (core : ℕ) → (takes : Bool) → Source
source_at feeds core takes = source_of takes (feeder_at feeds core)

-- whether they come from outside
abbrev pub is_outside : Source → Bool
is_outside (source.Feeder feeder) = false
is_outside source.Outside = true
is_outside source.Nothing = false

-- whether the queue before a core is offered a word
abbrev pub fed_by : (core : ℕ) → Source → Expr Joint ⊥
fed_by core (source.Feeder feeder) = Signal (Puts feeder)
fed_by core source.Outside = Signal (Offers core)
fed_by core source.Nothing = Const 1 0

-- and that word
abbrev pub comes_by : (core : ℕ) → Source → Expr Joint ⊥
comes_by core (source.Feeder feeder) = Signal (Word feeder)
comes_by core source.Outside = Signal (Offer core)
comes_by core source.Nothing = Const 32 0

-- What the queue before a core is offered: what the core's feeder puts out (`fed` of AreWired), or what the outside offers, or nothing.
abbrev pub queue_wires : (core : ℕ) → Source → List (Wire Joint ⊥)
queue_wires core source =
    record { name = Fed core; width = 1; word = fed_by core source }
    ∷ record { name = Comes core; width = 32; word = comes_by core source } ∷ []

-- ---- the modules below it

-- The ports of a core's module, beside the clock.
pub data CorePort : Type 0 where
  ResetOf : CorePort
  HaltedOf : CorePort
  CycleOf : CorePort
  OutValid : CorePort
  OutData : CorePort
  OutReady : CorePort
  InValid : CorePort
  InData : CorePort
  InReady : CorePort

-- what they are called
abbrev pub port_name : CorePort → List ℕ
port_name ResetOf = codes "reset"
port_name HaltedOf = codes "halted"
port_name CycleOf = codes "cycle"
port_name OutValid = codes "out_valid"
port_name OutData = codes "out_data"
port_name OutReady = codes "out_ready"
port_name InValid = codes "in_valid"
port_name InData = codes "in_data"
port_name InReady = codes "in_ready"

-- The ports of the module of a queue, beside the clock, are called alike, but for those that only a core has.

-- which signal each port of a core is joined to
abbrev pub core_joints : (core : ℕ) → List (CorePort × Joint)
core_joints core =
    (ResetOf, Reset) ∷ (HaltedOf, Halted core) ∷ (CycleOf, Cycle core) ∷ (OutValid, Valid core) ∷ (OutData, Word core)
    ∷ (OutReady, Ready core) ∷ (InValid, HasWord core) ∷ (InData, First core) ∷ (InReady, Asks core) ∷ []

-- and which each port of the queue before it
abbrev pub queue_joints : (core : ℕ) → List (CorePort × Joint)
queue_joints core =
    (ResetOf, Reset) ∷ (InValid, Fed core) ∷ (InData, Comes core) ∷ (InReady, Room core) ∷ (OutValid, HasWord core)
    ∷ (OutData, First core) ∷ (OutReady, Takes core) ∷ []
