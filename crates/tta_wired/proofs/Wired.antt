-- The wires of the module that joins cores are those of the theorem.
use Rattle.std.proofs.Common.{◌≡◌, ℕ, suc, ◌+◌, ◌<◌, ◌≤◌, Bool, true, false, not, ◌&&◌, ◌||◌, if◌then◌else◌, List, [], ◌∷◌, length, Option, None, Some, refl, sym, ap, ◌∙◌, arith}
use Rattle.std.specs.Prelude.{slice_get, is_some}
use Rattle.std.specs.Option.{option_map_or}
use Rattle.std.proofs.lemmas.Bool.{false≢true}
use Rattle.std.proofs.lemmas.Option.{slice_get_within}
use Rattle.tta_ops.specs.Units.{Units}
use Rattle.tta_code.specs.Cycle.{State}
use Rattle.tta_circuit.specs.Circuit.{Signal, Both}
use Rattle.tta_circuit.specs.Meaning.{bit, is_set, value}
use Rattle.tta_hardware.specs.Signals.{Signal as Named, HasHalted, IsOffered, IsReady, IsReset, Asks, Gives, Goes, Puts as CorePuts, PutWord}
use Rattle.tta_hardware.proofs.Chained.{set_bit, going}
use Rattle.tta_hardware.proofs.Circuits.{is_settled}
use Rattle.tta_queue.specs.Queue as queue
use Rattle.tta_kahn.specs.declared.cores.Core.{Core}
use Rattle.tta_kahn.specs.Network.{Network, feeder_of}
use Rattle.tta_kahn.specs.Cluster.{cycles}
use Rattle.tta_board.specs.Board.{Board, Inputs, have_room, lines, pins_of, IsWiredCore, AreWired}
use Rattle.tta_wiring.specs.Signals.{Joint, Outside, Offers, Offer, Cycle, Valid, Asks as Wants, Room, Rooms, Ready, Puts, Takes, is_feeder, rooms_of, feeder_at, source_of, is_outside, fed_by as word_fed, comes_by as word_comes}
use Rattle.tta_wiring.specs.declared.part.Source.{Source}
use Rattle.tta_joint.specs.Joint.{new_words}
use Rattle.tta_wired.specs.Joining.{AreLinked, AreNet, is_open}
use Rattle.tta_wired.specs.Laws.{NetIsWired}

-- ---- tests

-- what holds of a test that a carried out instruction asks for
beside : (goes reset halted x : Bool) → (goes ≡ true → (not reset && not halted) ≡ true) → (goes && (not reset && (not halted && x))) ≡ (goes && x)
beside false reset halted x on = refl
beside true false false x on = refl
beside true true halted x on = absurd (let e = on refl in cc)
beside true false true x on = absurd (let e = on refl in cc)

-- the first two of what lets a core go
lets : (goes reset halted rest : Bool) → goes ≡ (not reset && (not halted && rest)) → goes ≡ true → (not reset && not halted) ≡ true
lets goes true halted rest is on = absurd (let e = sym is ∙ on in cc)
lets goes false true rest is on = absurd (let e = sym is ∙ on in cc)
lets goes false false rest is on = refl

-- the room of all queues that a core feeds
rooms_are : (u : Units) (signals : Joint → ℕ) (ready : ℕ → Bool) (feeder core : ℕ) (feeds : List (Option ℕ))
    → ((other : ℕ) → core ≤ other → other < core + length feeds → is_set (signals (Room other)) ≡ ready other)
    → is_set (value u (λ (m : ⊥). []) signals (rooms_of feeder core feeds)) ≡ have_room ready feeder core feeds
rooms_are u signals ready feeder core [] alike = refl
rooms_are u signals ready feeder core (o ∷ feeds) alike =
    of (is_feeder feeder o)
    (rooms_are u signals ready feeder (core + 1) feeds (λ other more less. alike other (omega (arith, more)) (omega (arith, less)))
    ∙ ap (λ (n : ℕ). have_room ready feeder n feeds) (next core))
  where
    next : (n : ℕ) → n + 1 ≡ suc n
    next n = omega arith

    rest : ℕ
    rest = value u (λ (m : ⊥). []) signals (rooms_of feeder (core + 1) feeds)

    of : (fed : Bool) → is_set rest ≡ have_room ready feeder (suc core) feeds
        → is_set (value u (λ (m : ⊥). []) signals
        (if fed then Both (Signal (Room core)) (rooms_of feeder (core + 1) feeds) else rooms_of feeder (core + 1) feeds))
        ≡ ((not fed || ready core) && have_room ready feeder (suc core) feeds)
    of true is =
        set_bit (is_set (signals (Room core)) && is_set rest)
        ∙ ap (λ (b : Bool). b && is_set rest) (alike core (omega arith) (omega arith)) ∙ ap (λ (b : Bool). ready core && b) is
    of false is = is

-- what a pin of a core shows: that all begins not anew, that the core has not halted, and a test
pub shown : (x h g : Bool) → is_set (bit (is_set (bit (not x)) && is_set (bit (is_set (bit (not h)) && g)))) ≡ (not x && (not h && g))
shown true h g = refl
shown false true g = refl
shown false false g = set_bit (is_set (bit g)) ∙ set_bit g

-- ---- the wires

module _ (u : Units) (cores : List Core) (feeds : List (Option ℕ)) (takes_words : ℕ → Bool) (memories : ℕ → List ℕ) (k : ℕ → ℕ) (b : Board)
    (i : Inputs) (signals : Joint → ℕ) (linked : AreLinked cores feeds)
    (net : AreNet u cores feeds takes_words memories k b i signals) where
  abbrev among : Network State
  among = cycles u cores feeds

  -- ---- a core

  module _ (n : ℕ) (c : Core) (there : slice_get cores n ≡ Some c) where
    abbrev env : Named → ℕ
    env = lines u cores feeds memories k b i n c

    abbrev within : n < length cores
    within = slice_get_within cores n c there

    -- what it carries out, and at which clocks
    goes_is : is_set (env Goes) ≡ (not (is_set (env IsReset)) && (not (is_set (env HasHalted))
        && ((not (is_set (env Asks)) || is_set (env IsOffered)) && (not (is_set (env Gives)) || is_set (env IsReady)))))
    goes_is =
        ap is_set (is_settled u c.machine c.code (memories n) (b.cores n) (i.cores n)).goes
        ∙ going (is_set (env IsReset)) (is_set (env HasHalted)) (is_set (env Asks)) (is_set (env IsOffered)) (is_set (env Gives))
        (is_set (env IsReady))

    -- a test beside it, as a pin shows it
    at_pin : (x : Bool)
        → (is_set (env Goes) && is_set (bit (is_set (bit (not (is_set (env IsReset)))) && is_set (bit (is_set (bit (not (is_set (env HasHalted)))) && x)))))
        ≡ (is_set (env Goes) && x)
    at_pin x =
        ap (λ (r : Bool). is_set (env Goes) && r) (shown (is_set (env IsReset)) (is_set (env HasHalted)) x)
        ∙ beside (is_set (env Goes)) (is_set (env IsReset)) (is_set (env HasHalted)) x
        (lets (is_set (env Goes)) (is_set (env IsReset)) (is_set (env HasHalted)) _ goes_is)

    -- it puts a word out
    pub puts : is_set (signals (Puts n)) ≡ is_set (env CorePuts)
    puts =
        let joints = net.of_core n c there in
        ap is_set (net.wires_of_core n within).1.1.0
        ∙ set_bit (is_set (signals (Cycle n)) && is_set (signals (Valid n)))
        ∙ ap (λ (r : ℕ). is_set r && is_set (signals (Valid n))) (sym joints.1.1.0)
        ∙ ap (λ (r : ℕ). is_set (env Goes) && is_set r) (sym joints.1.1.1.0)
        ∙ at_pin (is_set (env Gives))
        ∙ sym (ap is_set (is_settled u c.machine c.code (memories n) (b.cores n) (i.cores n)).puts ∙ set_bit (is_set (env Goes) && is_set (env Gives)))

    -- it takes one
    takes : is_set (signals (Takes n)) ≡ (is_set (env Goes) && is_set (env Asks))
    takes =
        let joints = net.of_core n c there in
        ap is_set (net.wires_of_core n within).1.1.1.0
        ∙ set_bit (is_set (signals (Cycle n)) && is_set (signals (Wants n)))
        ∙ ap (λ (r : ℕ). is_set r && is_set (signals (Wants n))) (sym joints.1.1.0)
        ∙ ap (λ (r : ℕ). is_set (env Goes) && is_set r) (sym joints.1.1.1.1.1.1.1.1.0)
        ∙ at_pin (is_set (env Asks))

    -- a word of it would be taken
    taken : is_set (signals (Ready n)) ≡ (i.outside n && have_room (λ other. is_set (pins_of u cores feeds memories k b i other queue.InReady)) n 0 feeds)
    taken =
        ap is_set (net.wires_of_core n within).1.0
        ∙ set_bit (is_set (signals (Outside n)) && is_set (signals (Rooms n)))
        ∙ ap (λ (r : Bool). r && is_set (signals (Rooms n))) (net.outside n within)
        ∙ ap (λ (r : Bool). i.outside n && r)
        (ap is_set (net.wires_of_core n within).0
        ∙ rooms_are u signals (λ other. is_set (pins_of u cores feeds memories k b i other queue.InReady)) n 0 feeds
        (λ other more less. ap is_set (sym (net.of_queue other (omega (arith, less, linked.count))).1.1.1.0)))

    wired : IsWiredCore u cores feeds memories k b i n c
    wired =
        let joints = net.of_core n c there in
        let before = net.of_queue n within in
        record {
          offered = ap is_set (joints.1.1.1.1.1.1.0 ∙ sym before.1.1.1.1.0);
          offer = joints.1.1.1.1.1.1.1.0 ∙ sym before.1.1.1.1.1.0;
          ready = ap is_set joints.1.1.1.1.1.0 ∙ taken;
          reset = ap is_set joints.0 ∙ net.reset;
          asked = ap is_set before.1.1.1.1.1.1.0 ∙ takes;
        }

  -- ---- the queue before it

  -- which core feeds it
  fed_by : (n feeder : ℕ) → feeder_of among n ≡ Some feeder → slice_get feeds n ≡ Some (Some feeder)
  fed_by n feeder is = by (slice_get feeds n) refl is where
    by : (o : Option (Option ℕ)) → slice_get feeds n ≡ o → option_map_or (λ f. f) o None ≡ Some feeder → slice_get feeds n ≡ Some (Some feeder)
    by None at is = absurd cc
    by (Some None) at is = absurd cc
    by (Some (Some f)) at is = at ∙ ap Some is

  -- it is there
  there_is : (n : ℕ) (o : Option ℕ) → slice_get feeds n ≡ Some o → n < length cores
  there_is n o at = let less = slice_get_within feeds n o at in omega (arith, less, linked.count)

  fed : (n feeder : ℕ) (f : Core) → feeder_of among n ≡ Some feeder → slice_get cores feeder ≡ Some f
      → (is_set (i.queues n queue.InValid) ≡ is_set (lines u cores feeds memories k b i feeder f CorePuts))
      × (i.queues n queue.InData ≡ lines u cores feeds memories k b i feeder f PutWord)
  fed n feeder f is there =
      let within = there_is n (Some feeder) (fed_by n feeder is) in
      let before = net.of_queue n within in
      let wires = net.wires_of_queue n within in (
        ap is_set (before.1.0 ∙ wires.0 ∙ ap (λ o. value u (λ (m : ⊥). []) signals (word_fed n (source_of (takes_words n) o))) is)
            ∙ puts feeder f there,
        before.1.1.0 ∙ wires.1.0 ∙ ap (λ o. value u (λ (m : ⊥). []) signals (word_comes n (source_of (takes_words n) o))) is
            ∙ sym (net.of_core feeder f there).1.1.1.1.0,
      )

  no_core : (n feeder : ℕ) → feeder_of among n ≡ Some feeder → slice_get cores feeder ≡ None → is_set (i.queues n queue.InValid) ≡ false
  no_core n feeder is none =
      let some = linked.feeders n feeder (fed_by n feeder is) in
      absurd (let e = sym some ∙ ap is_some none in cc)

  resets : (n : ℕ) → is_set (i.queues n queue.IsReset) ≡ i.reset
  resets n = by (slice_get cores n) refl where
    by : (o : Option Core) → slice_get cores n ≡ o → is_set (i.queues n queue.IsReset) ≡ i.reset
    by None at = (net.none n at).reset
    by (Some c) at = ap is_set (net.of_queue n (slice_get_within cores n c at)).0 ∙ net.reset

  pub are_wired : AreWired u cores feeds memories k b i
  are_wired = record {
    each = wired;
    unasked = λ n none. (net.none n none).asked;
    fed = fed;
    no_core = no_core;
    reset = resets;
  }

-- ---- what comes in

-- what a queue that no core feeds takes at a clock is what comes in at the ports: o says whether it has ports, v whether a word is offered
-- to the queue and p whether one is at the ports, and r that there is room
comes_so : (o v p r : Bool) (word other : ℕ) → v ≡ (o && p) → (o ≡ true → word ≡ other)
    → (if v && r then word ∷ [] else []) ≡ (if o && (p && r) then other ∷ [] else [])
comes_so false v p r word other is same = ap (λ (x : Bool). if x && r then word ∷ [] else []) is
comes_so true v p r word other is same =
    ap (λ (x : Bool). if x && r then word ∷ [] else []) is ∙ ap (λ (w : ℕ). if p && r then w ∷ [] else []) (same refl)

module _ (u : Units) (cores : List Core) (feeds : List (Option ℕ)) (takes_words : ℕ → Bool) (memories : ℕ → List ℕ) (k : ℕ → ℕ) (b : Board)
    (i : Inputs) (signals : Joint → ℕ) (net : AreNet u cores feeds takes_words memories k b i signals) (n : ℕ) (within : n < length cores)
    (unfed : feeder_at feeds n ≡ None) where
  abbrev opens : Bool
  opens = is_open feeds takes_words n

  abbrev source_is : Option ℕ → Source
  source_is o = source_of (takes_words n) o

  offered_so : (takes : Bool)
      → is_set (value u (λ (m : ⊥). []) signals (word_fed n (source_of takes None)))
      ≡ (is_outside (source_of takes None) && is_set (signals (Offers n)))
  offered_so true = refl
  offered_so false = refl

  word_so : (takes : Bool) → is_outside (source_of takes None) ≡ true
      → value u (λ (m : ⊥). []) signals (word_comes n (source_of takes None)) ≡ signals (Offer n)
  word_so true is = refl
  word_so false is = absurd (false≢true is)

  pub new_words_are : new_words (pins_of u cores feeds memories k b i n)
      ≡ (if opens && (is_set (signals (Offers n)) && is_set (signals (Room n))) then signals (Offer n) ∷ [] else [])
  new_words_are =
      let before = net.of_queue n within in
      let wires = net.wires_of_queue n within in
      let room = is_set (signals (Room n)) in
      let offered : is_set (i.queues n queue.InValid) ≡ (opens && is_set (signals (Offers n))) =
      ap is_set (before.1.0 ∙ wires.0 ∙ ap (λ o. value u (λ (m : ⊥). []) signals (word_fed n (source_is o))) unfed)
      ∙ offered_so (takes_words n) ∙ ap (λ o. is_outside (source_is o) && is_set (signals (Offers n))) (sym unfed) in
      let word : opens ≡ true → i.queues n queue.InData ≡ signals (Offer n) = λ is.
      before.1.1.0 ∙ wires.1.0 ∙ ap (λ o. value u (λ (m : ⊥). []) signals (word_comes n (source_is o))) unfed
      ∙ word_so (takes_words n) (ap (λ o. is_outside (source_is o)) (sym unfed) ∙ is) in
      ap (λ (x : ℕ). if is_set (i.queues n queue.InValid) && is_set x then i.queues n queue.InData ∷ [] else []) before.1.1.1.0
      ∙ comes_so opens (is_set (i.queues n queue.InValid)) (is_set (signals (Offers n))) room (i.queues n queue.InData) (signals (Offer n))
      offered word

pub net_is_wired : NetIsWired
net_is_wired u cores feeds takes memories k b i signals linked net = are_wired u cores feeds takes memories k b i signals linked net
