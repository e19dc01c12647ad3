-- Circuits can be wired at every clock.
use Rattle.std.proofs.Common.{◌≡◌, ℕ, zero, suc, ◌<◌, ◌==◌, Bool, true, false, not, ◌&&◌, ◌||◌, nat_le, List, [], ◌∷◌, Option, Some, refl, sym, ap, ◌∙◌, subst, arith}
use Rattle.std.specs.Prelude.{slice_get}
use Rattle.std.specs.Option.{option_map_or}
use Rattle.std.proofs.lemmas.Bool.{le-leb, leb-true}
use Rattle.tta_board.specs.Cited.{Units, State, bit, is_set, settled, IsOffered, Offer, IsReady, IsReset, Asks, Goes, Puts, PutWord, same_signal, circuit_of, Pin, InValid, InData, OutReady, InReady, OutValid, OutData, same_pin, queue_of, Core, Network, feeder_of, cycles}
use Rattle.tta_hardware.specs.Signals.{Signal as Named}
use Rattle.tta_hardware.proofs.Chained.{set_bit}
use Rattle.tta_queue.specs.Queue as queue
use Rattle.tta_queue.proofs.Clocking.{queue_looks}
use Rattle.tta_board.specs.Board.{Board, Inputs, Powers, have_room, pins_of, IsWiredCore, AreWired, board_after, board_at, AreBoardClocks}
use Rattle.tta_board.specs.Laws.{Surroundings, ComesFrom, BoardSettles}

-- queues with the same room
room_alike : (ready other : ℕ → Bool) → ((core : ℕ) → ready core ≡ other core) → (feeder core : ℕ) (feeds : List (Option ℕ))
    → have_room ready feeder core feeds ≡ have_room other feeder core feeds
room_alike ready other alike feeder core [] = refl
room_alike ready other alike feeder core (o ∷ feeds) =
    ap (λ r. (not (option_map_or (λ f. f == feeder) o false) || r) && have_room ready feeder (suc core) feeds) (alike core)
    ∙ ap (λ r. (not (option_map_or (λ f. f == feeder) o false) || other core) && r) (room_alike ready other alike feeder (suc core) feeds)

module _ (u : Units) (cores : List Core) (feeds : List (Option ℕ)) (memories : ℕ → List ℕ) (k : ℕ → ℕ) where
  abbrev net : Network State
  net = cycles u cores feeds

  module _ (b : Board) (reset : Bool) (outside : Surroundings) where
    -- ---- what queues show, first

    abbrev reset_alone : Pin → ℕ
    reset_alone queue.IsReset = bit reset
    reset_alone p = 0

    abbrev look : (core : ℕ) → Pin → ℕ
    look core = settled same_pin u (queue_of (k core) 32) (b.queues core) reset_alone

    -- ---- then cores

    abbrev core_inputs : (core : ℕ) → Named → ℕ
    core_inputs core IsOffered = look core OutValid
    core_inputs core Offer = look core OutData
    core_inputs core IsReady = bit (outside.takes core && have_room (λ other. is_set (look other InReady)) core 0 feeds)
    core_inputs core IsReset = bit reset
    core_inputs core n = 0

    abbrev line : (core : ℕ) → Core → Named → ℕ
    line core c = settled same_signal u (circuit_of c.machine c.code (memories core)) (b.cores core) (core_inputs core)

    -- ---- then what queues take and give

    -- a queue that no core feeds is offered this word from outside
    abbrev from_core : (signal : Named) → (other : ℕ) → Option ℕ → ℕ
    from_core signal other o = option_map_or (λ feeder. option_map_or (λ f. line feeder f signal) (slice_get cores feeder) 0) o other

    abbrev to_core : (core : ℕ) → Option Core → ℕ
    to_core core o = option_map_or (λ c. bit (is_set (line core c Goes) && is_set (line core c Asks))) o 0

    abbrev queue_inputs : (core : ℕ) → Pin → ℕ
    queue_inputs core InValid = from_core Puts (bit (outside.offers core)) (feeder_of net core)
    queue_inputs core InData = from_core PutWord (outside.word core) (feeder_of net core)
    queue_inputs core OutReady = to_core core (slice_get cores core)
    queue_inputs core queue.IsReset = bit reset
    queue_inputs core p = 0

    abbrev pub inputs_of : Inputs
    inputs_of = record { cores = core_inputs; queues = queue_inputs; reset = reset; outside = outside.takes }

    -- ---- they are wired

    -- what queues show does not depend on what they take and give
    record Looks (core : ℕ) : Type 0 where
      pub ready : pins_of u cores feeds memories k b inputs_of core InReady ≡ look core InReady
      pub valid : pins_of u cores feeds memories k b inputs_of core OutValid ≡ look core OutValid
      pub word : pins_of u cores feeds memories k b inputs_of core OutData ≡ look core OutData

    looks : (core : ℕ) → Looks core
    looks core =
        let is = queue_looks u (k core) 32 (b.queues core) (queue_inputs core) reset_alone refl in
        record { ready = is.0; valid = is.1.0; word = is.1.1 }

    each : (core : ℕ) (c : Core) → slice_get cores core ≡ Some c → IsWiredCore u cores feeds memories k b inputs_of core c
    each core c there = record {
      offered = ap is_set (sym (looks core).valid);
      offer = sym (looks core).word;
      ready =
          set_bit (outside.takes core && have_room (λ other. is_set (look other InReady)) core 0 feeds)
          ∙ ap (λ r. outside.takes core && r) (room_alike (λ other. is_set (look other InReady))
          (λ other. is_set (pins_of u cores feeds memories k b inputs_of other InReady))
          (λ other. ap is_set (sym (looks other).ready)) core 0 feeds);
      reset = set_bit reset;
      asked = ap (λ o. is_set (to_core core o)) there ∙ set_bit (is_set (line core c Goes) && is_set (line core c Asks));
    }

    from_one : (signal : Named) (other core feeder : ℕ) (f : Core) → feeder_of net core ≡ Some feeder → slice_get cores feeder ≡ Some f
        → from_core signal other (feeder_of net core) ≡ line feeder f signal
    from_one signal other core feeder f feeds_it there =
        ap (from_core signal other) feeds_it ∙ ap (λ o. option_map_or (λ f. line feeder f signal) o 0) there

    pub wired : AreWired u cores feeds memories k b inputs_of
    wired = record {
      each = each;
      unasked = λ core none. ap (λ o. is_set (to_core core o)) none;
      fed = λ core feeder f feeds_it there. (
        ap is_set (from_one Puts (bit (outside.offers core)) core feeder f feeds_it there),
        from_one PutWord (outside.word core) core feeder f feeds_it there,
      );
      no_core = λ core feeder feeds_it none.
          ap (λ o. is_set (from_core Puts (bit (outside.offers core)) o)) feeds_it
          ∙ ap (λ o. is_set (option_map_or (λ f. line feeder f Puts) o 0)) none;
      reset = λ core. set_bit reset;
    }

    -- and what the outside does comes in
    pub comes : ComesFrom u cores feeds outside inputs_of
    comes = record {
      takes = λ core. refl;
      offers = λ core none. ap (λ o. is_set (from_core Puts (bit (outside.offers core)) o)) none ∙ set_bit (outside.offers core);
      word = λ core none. ap (from_core PutWord (outside.word core)) none;
    }

  -- ---- clock by clock

  module _ (powers : Powers) (last : ℕ) (outside : ℕ → Surroundings) where
    abbrev run : ℕ → Board
    run zero = board_at u cores feeds memories k powers (λ t. record {
      cores = λ core n. 0;
      queues = λ core p. 0;
      reset = false;
      outside = λ core. false;
    }) zero
    run (suc t) = board_after u cores feeds memories k (run t) (inputs_of (run t) (nat_le t last) (outside t))

    abbrev inputs : ℕ → Inputs
    inputs t = inputs_of (run t) (nat_le t last) (outside t)

    at_run : (t : ℕ) → board_at u cores feeds memories k powers inputs t ≡ run t
    at_run zero = refl
    at_run (suc t) = ap (λ b. board_after u cores feeds memories k b (inputs t)) (at_run t)

    clocks : AreBoardClocks u cores feeds memories k powers inputs last
    clocks = record {
      wired = λ t. subst (λ b. AreWired u cores feeds memories k b (inputs t)) (sym (at_run t)) (wired (run t) (nat_le t last) (outside t));
      reset = λ t le. le-leb t last le;
      on = λ t less. past t less (nat_le t last) refl;
    } where
      past : (t : ℕ) → last < t → (b : Bool) → nat_le t last ≡ b → b ≡ false
      past t less true is = absurd (let le = leb-true t last is in omega (arith, le, less))
      past t less false is = refl

    settles : (i : ℕ → Inputs) ×
        (AreBoardClocks u cores feeds memories k powers i last × ((t : ℕ) → ComesFrom u cores feeds (outside t) (i t)))
    settles = (inputs, (clocks, λ t. comes (run t) (nat_le t last) (outside t)))

pub board_settles : BoardSettles
board_settles u cores feeds memories k powers last outside = settles u cores feeds memories k powers last outside
