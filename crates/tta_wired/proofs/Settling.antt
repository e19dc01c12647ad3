-- The signals of the module have words at every clock.
use Rattle.std.proofs.Common.{◌≡◌, ℕ, zero, suc, ◌+◌, ◌<◌, Bool, true, false, ◌&&◌, nat_le, if◌then◌else◌, List, [], ◌∷◌, length, Option, Some, None, refl, sym, ap, ◌∙◌, subst, arith}
use Rattle.std.specs.Prelude.{slice_get}
use Rattle.std.specs.Option.{option_map_or}
use Rattle.std.proofs.lemmas.Bool.{le-leb, leb-true}
use Rattle.tta_ops.specs.Units.{Units}
use Rattle.tta_circuit.specs.Circuit.{Signal, Both}
use Rattle.tta_circuit.specs.Meaning.{bit, is_set, settled, value}
use Rattle.tta_hardware.specs.Signals.{Signal as Named, HasHalted, IsOffered, Offer, IsReady, IsReset, Goes, PutWord, same_signal}
use Rattle.tta_hardware.specs.Hardware.{circuit_of}
use Rattle.tta_hardware.specs.Pins.{out_valid, in_ready}
use Rattle.tta_hardware.proofs.Chained.{set_bit}
use Rattle.tta_queue.specs.Queue.{Pin, same_pin, queue_of}
use Rattle.tta_queue.specs.Queue as queue
use Rattle.tta_queue.proofs.Clocking.{queue_looks}
use Rattle.tta_kahn.specs.declared.cores.Core.{Core}
use Rattle.tta_board.specs.Board.{Board, Inputs, Powers, board_after, board_at}
use Rattle.tta_wiring.specs.declared.part.Source.{Source}
use Rattle.tta_wiring.specs.declared.part.Source.TheVariants as source
use Rattle.tta_wiring.specs.Signals.{Joint, Reset, Outside, Offers, Offer, Halted, Cycle, Valid, Word, Asks, Room, HasWord, First, Rooms, Ready, Puts, Takes, Fed, Comes, is_feeder, rooms_of, source_at, fed_by, comes_by, queue_wires}
use Rattle.tta_wired.specs.Joining.{HaveWords, IsUnused, AreNet, AreNetClocks}
use Rattle.tta_board.specs.Laws.{Surroundings}
use Rattle.tta_progress.proofs.Moving.{ends_before}
use Rattle.tta_wired.specs.Laws.{ComesIn, NetSettles}

-- the room of queues is the same where each says the same
rooms_alike : (u : Units) (some other : Joint → ℕ) → ((n : ℕ) → some (Room n) ≡ other (Room n)) → (feeder core : ℕ) (feeds : List (Option ℕ))
    → value u (λ (m : ⊥). []) some (rooms_of feeder core feeds) ≡ value u (λ (m : ⊥). []) other (rooms_of feeder core feeds)
rooms_alike u some other alike feeder core [] = refl
rooms_alike u some other alike feeder core (o ∷ feeds) =
    by (is_feeder feeder o) (rooms_alike u some other alike feeder (core + 1) feeds)
  where
    by : (fed : Bool)
        → value u (λ (m : ⊥). []) some (rooms_of feeder (core + 1) feeds) ≡ value u (λ (m : ⊥). []) other (rooms_of feeder (core + 1) feeds)
        → value u (λ (m : ⊥). []) some
        (if fed then Both (Signal (Room core)) (rooms_of feeder (core + 1) feeds) else rooms_of feeder (core + 1) feeds)
        ≡ value u (λ (m : ⊥). []) other
        (if fed then Both (Signal (Room core)) (rooms_of feeder (core + 1) feeds) else rooms_of feeder (core + 1) feeds)
    by true rest =
        ap (λ n. bit (is_set n && is_set (value u (λ (m : ⊥). []) some (rooms_of feeder (core + 1) feeds)))) (alike core)
        ∙ ap (λ n. bit (is_set (other (Room core)) && is_set n)) rest
    by false rest = rest

module _ (u : Units) (cores : List Core) (feeds : List (Option ℕ)) (takes_words : ℕ → Bool) (memories : ℕ → List ℕ) (k : ℕ → ℕ) where
  module _ (b : Board) (reset : Bool) (outside : Surroundings) where
    -- ---- what queues show, first

    abbrev reset_alone : Pin → ℕ
    reset_alone queue.IsReset = bit reset
    reset_alone p = 0

    abbrev look : (core : ℕ) → Pin → ℕ
    look core = settled same_pin u (queue_of (k core) 32) (b.queues core) reset_alone

    abbrev shown : Joint → ℕ
    shown (Room core) = look core queue.InReady
    shown s = 0

    -- ---- then whether words would be taken, and what cores do

    abbrev rooms : (core : ℕ) → ℕ
    rooms core = value u (λ (m : ⊥). []) shown (rooms_of core 0 feeds)

    abbrev ready : (core : ℕ) → ℕ
    ready core = bit (is_set (bit (outside.takes core)) && is_set (rooms core))

    abbrev core_inputs : (core : ℕ) → Named → ℕ
    core_inputs core IsOffered = look core queue.OutValid
    core_inputs core Offer = look core queue.OutData
    core_inputs core IsReady = ready core
    core_inputs core IsReset = bit reset
    core_inputs core n = 0

    abbrev line : (core : ℕ) → Core → Named → ℕ
    line core c = settled same_signal u (circuit_of c.machine c.code (memories core)) (b.cores core) (core_inputs core)

    -- the word of a core, or 0 where it is not there
    abbrev of_core : (core : ℕ) → (Core → ℕ) → ℕ
    of_core core word = option_map_or word (slice_get cores core) 0

    abbrev cycle : (core : ℕ) → ℕ
    cycle core = of_core core (λ c. line core c Goes)

    abbrev valid : (core : ℕ) → ℕ
    valid core = of_core core (λ c. value u (b.cores core).memories (line core c) out_valid)

    abbrev word : (core : ℕ) → ℕ
    word core = of_core core (λ c. line core c PutWord)

    abbrev asks : (core : ℕ) → ℕ
    asks core = of_core core (λ c. value u (b.cores core).memories (line core c) in_ready)

    -- ---- then what they put out and take, and what queues are offered

    abbrev puts : (core : ℕ) → ℕ
    puts core = bit (is_set (cycle core) && is_set (valid core))

    abbrev takes : (core : ℕ) → ℕ
    takes core = bit (is_set (cycle core) && is_set (asks core))

    -- the source of each queue
    abbrev from : (core : ℕ) → Source
    from core = source_at feeds core (takes_words core)

    abbrev fed : (core : ℕ) → Source → ℕ
    fed core (source.Feeder feeder) = puts feeder
    fed core source.Outside = bit (outside.offers core)
    fed core source.Nothing = 0

    abbrev comes : (core : ℕ) → Source → ℕ
    comes core (source.Feeder feeder) = word feeder
    comes core source.Outside = outside.word core
    comes core source.Nothing = 0

    -- where there is no core nothing is offered
    abbrev offered : (core : ℕ) → Option Core → ℕ
    offered core None = 0
    offered core (Some c) = fed core (from core)

    abbrev signals : Joint → ℕ
    signals Reset = bit reset
    signals (Outside core) = bit (outside.takes core)
    signals (Offers core) = bit (outside.offers core)
    signals (Offer core) = outside.word core
    signals (Halted core) = of_core core (λ c. line core c HasHalted)
    signals (Cycle core) = cycle core
    signals (Valid core) = valid core
    signals (Word core) = word core
    signals (Asks core) = asks core
    signals (Room core) = look core queue.InReady
    signals (HasWord core) = look core queue.OutValid
    signals (First core) = look core queue.OutData
    signals (Rooms core) = rooms core
    signals (Ready core) = ready core
    signals (Puts core) = puts core
    signals (Takes core) = takes core
    signals (Fed core) = offered core (slice_get cores core)
    signals (Comes core) = comes core (from core)

    abbrev queue_inputs : (core : ℕ) → Pin → ℕ
    queue_inputs core queue.InValid = offered core (slice_get cores core)
    queue_inputs core queue.InData = comes core (from core)
    queue_inputs core queue.OutReady = takes core
    queue_inputs core queue.IsReset = bit reset
    queue_inputs core p = 0

    abbrev inputs_of : Inputs
    inputs_of = record { cores = core_inputs; queues = queue_inputs; reset = reset; outside = outside.takes }

    -- ---- they are joined

    there_is : (core : ℕ) (c : Core) (word : Core → ℕ) → slice_get cores core ≡ Some c → word c ≡ of_core core word
    there_is core c word there = sym (ap (λ o. option_map_or word o 0) there)

    word_fed : (core : ℕ) (s : Source) → fed core s ≡ value u (λ (m : ⊥). []) signals (fed_by core s)
    word_fed core (source.Feeder feeder) = refl
    word_fed core source.Outside = refl
    word_fed core source.Nothing = refl

    word_comes : (core : ℕ) (s : Source) → comes core s ≡ value u (λ (m : ⊥). []) signals (comes_by core s)
    word_comes core (source.Feeder feeder) = refl
    word_comes core source.Outside = refl
    word_comes core source.Nothing = refl

    wires_of_queue : (core : ℕ) → core < length cores → HaveWords u signals (queue_wires core (from core))
    wires_of_queue core less = (by (slice_get cores core) refl, (word_comes core (from core), tt)) where
      by : (o : Option Core) → slice_get cores core ≡ o
          → offered core (slice_get cores core) ≡ value u (λ (m : ⊥). []) signals (fed_by core (from core))
      by None none = absurd (let le = ends_before cores core none in omega (arith, le, less))
      by (Some c) there = ap (offered core) there ∙ word_fed core (from core)

    unused : (core : ℕ) → slice_get cores core ≡ None → IsUnused inputs_of core
    unused core none = record {
      offered = ap (λ o. is_set (offered core o)) none;
      asked = ap (λ o. is_set (bit (is_set (option_map_or (λ c. line core c Goes) o 0) && is_set (asks core)))) none;
      reset = set_bit reset;
    }

    joined : AreNet u cores feeds takes_words memories k b inputs_of signals
    joined = record {
      of_core = λ core c there. (
        refl,
        (
          there_is core c (λ c. line core c HasHalted) there,
          (
            there_is core c (λ c. line core c Goes) there,
            (
              there_is core c (λ c. value u (b.cores core).memories (line core c) out_valid) there,
              (
                there_is core c (λ c. line core c PutWord) there,
                (refl, (refl, (refl, (there_is core c (λ c. value u (b.cores core).memories (line core c) in_ready) there, tt)))),
              ),
            ),
          ),
        ),
      );
      of_queue = λ core less.
          let same = queue_looks u (k core) 32 (b.queues core) (queue_inputs core) reset_alone refl in
          (refl, (refl, (refl, (same.0, (same.1.0, (same.1.1, (refl, tt)))))));
      wires_of_core = λ core less. (rooms_alike u shown signals (λ n. refl) core 0 feeds, (refl, (refl, (refl, tt))));
      wires_of_queue = wires_of_queue;
      reset = set_bit reset;
      outside = λ core less. set_bit (outside.takes core);
      none = unused;
    }

    comes_in : ComesIn outside inputs_of signals
    comes_in = record { takes = λ core. refl; offers = λ core. set_bit (outside.offers core); word = λ core. refl }

  -- ---- clock by clock

  module _ (powers : Powers) (last : ℕ) (outside : ℕ → Surroundings) where
    abbrev run : ℕ → Board
    run zero = board_at u cores feeds memories k powers (λ t. record {
      cores = λ core n. 0;
      queues = λ core p. 0;
      reset = false;
      outside = λ core. false;
    }) zero
    run (suc t) = board_after u cores feeds memories k (run t) (inputs_of (run t) (nat_le t last) (outside t))

    abbrev inputs : ℕ → Inputs
    inputs t = inputs_of (run t) (nat_le t last) (outside t)

    abbrev words : ℕ → Joint → ℕ
    words t = signals (run t) (nat_le t last) (outside t)

    at_run : (t : ℕ) → board_at u cores feeds memories k powers inputs t ≡ run t
    at_run zero = refl
    at_run (suc t) = ap (λ b. board_after u cores feeds memories k b (inputs t)) (at_run t)

    past : (t : ℕ) → last < t → (b : Bool) → nat_le t last ≡ b → b ≡ false
    past t less true is = absurd (let le = leb-true t last is in omega (arith, le, less))
    past t less false is = refl

    clocks : AreNetClocks u cores feeds takes_words memories k powers inputs words last
    clocks = record {
      joined = λ t.
          subst (λ b. AreNet u cores feeds takes_words memories k b (inputs t) (words t)) (sym (at_run t))
          (joined (run t) (nat_le t last) (outside t));
      reset = λ t le. set_bit (nat_le t last) ∙ le-leb t last le;
      on = λ t less. set_bit (nat_le t last) ∙ past t less (nat_le t last) refl;
    }

    settles : (i : ℕ → Inputs) × (signals : ℕ → Joint → ℕ)
        × (AreNetClocks u cores feeds takes_words memories k powers i signals last × ((t : ℕ) → ComesIn (outside t) (i t) (signals t)))
    settles = (inputs, words, (clocks, λ t. comes_in (run t) (nat_le t last) (outside t)))

pub net_settles : NetSettles
net_settles u cores feeds takes memories k powers last outside = settles u cores feeds takes memories k powers last outside
