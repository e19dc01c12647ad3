-- At each clock exactly those cores make a cycle that can.
use Rattle.std.proofs.Common.{◌≡◌, ℕ, zero, suc, ◌+◌, ◌^◌, ◌<◌, ◌≤◌, ◌==◌, Bool, true, false, not, ◌&&◌, ◌||◌, nat_lt, List, [], ◌∷◌, length, Option, Some, None, refl, sym, ap, ◌∙◌, subst, arith}
use Rattle.std.specs.Prelude.{slice_get, is_none}
use Rattle.std.specs.Option.{option_map_or}
use Rattle.std.specs.List.{AllByRecursion}
use Rattle.std.proofs.lemmas.Bool.{false≢true, ne_eqb, and_parts}
use Rattle.std.proofs.lemmas.Option.{same_Some}
use Rattle.tta_list.proofs.Lists.{all_one}
use Rattle.tta_ops.specs.Units.{Units}
use Rattle.tta_code.specs.Cycle.{State, Outcome, Running, Halted, Waiting, Fault, next}
use Rattle.tta_circuit.specs.Meaning.{is_set}
use Rattle.tta_hardware.specs.Signals.{Signal as Named, HasHalted, IsOffered, IsReady, IsReset, Asks, Gives, Goes}
use Rattle.tta_hardware.specs.Stands.{is_halted, IsSettled}
use Rattle.tta_hardware.specs.Theorem.{is_fault, is_waiting}
use Rattle.tta_hardware.proofs.Chained.{going}
use Rattle.tta_hardware.proofs.Circuits.{is_settled}
use Rattle.tta_queue.specs.Queue.{InReady}
use Rattle.tta_queue.specs.Laws.{Shows}
use Rattle.tta_kahn.specs.declared.cores.Core.{Core}
use Rattle.tta_kahn.specs.Network.{Network, NetworkCore, after_step}
use Rattle.tta_kahn.specs.Cluster.{cycles_given}
use Rattle.tta_kahn.specs.Laws.{IsCore}
use Rattle.tta_joint.specs.Joint.{waiting_for}
use Rattle.tta_board.specs.Board.{Board, Inputs, is_feeder, have_room, lines, pins_of, AreWired}
use Rattle.tta_board.specs.Laws.{StandsAmong, StandForCores, AreFine}
use Rattle.tta_board.proofs.Entering.{enters, halts}
use Rattle.tta_board.proofs.Making as making
use Rattle.tta_board.proofs.Passing as passing
use Rattle.tta_hardware.proofs.Still.{stands_too}
use Rattle.tta_board.proofs.Standing.{same_waits}
use Rattle.tta_progress.specs.Moves.{has_room, puts_between, can_go, has_word_to_put}
use Rattle.tta_progress.specs.Laws.{BoardMoves}
use Rattle.tta_progress.proofs.Telling.{Tells, tells}

-- ---- tests

-- Whether a clock goes, from what is asked for (a), whether none is there (n), what is given (v) and whether it would be taken (r); and from
-- whether the cycle waits (w) and whether it puts a word out (p).
goes_by : (a n v r w p : Bool) → w ≡ (a && n) → (w ≡ false → p ≡ v) → ((not a || not n) && (not v || r)) ≡ (not w && (not p || r))
goes_by true true v r true p is puts = refl
goes_by true true v r false p is puts = absurd (false≢true is)
goes_by true false v r true p is puts = absurd (false≢true (sym is))
goes_by true false v r false p is puts = ap (λ x. not x || r) (sym (puts refl))
goes_by false n v r true p is puts = absurd (false≢true (sym is))
goes_by false n v r false p is puts = ap (λ x. not x || r) (sym (puts refl))

-- a list has a first element unless it is empty
first_of : (ws : List ℕ) → not (length ws == 0) ≡ not (is_none (slice_get ws 0))
first_of [] = refl
first_of (w ∷ ws) = ap not (ne_eqb (length (w ∷ ws)) 0 (λ e. omega (arith, e)))

-- a list ends before a place where it has nothing
pub ends_before : {A : Type 0} (xs : List A) (n : ℕ) → slice_get xs n ≡ None → length xs ≤ n
ends_before [] n none = omega arith
ends_before (x ∷ xs) zero none = absurd cc
ends_before (x ∷ xs) (suc n) none = let le = ends_before xs n none in omega (arith, le)

-- queues with the same room, as far as there are cores
room_within : (ready other : ℕ → Bool) (feeder core : ℕ) (feeds : List (Option ℕ))
    → ((n : ℕ) → n < core + length feeds → ready n ≡ other n) → have_room ready feeder core feeds ≡ have_room other feeder core feeds
room_within ready other feeder core [] alike = refl
room_within ready other feeder core (o ∷ feeds) alike =
    ap (λ r. (not (is_feeder feeder o) || r) && have_room ready feeder (suc core) feeds) (alike core (omega arith))
    ∙ ap (λ r. (not (is_feeder feeder o) || other core) && r)
    (room_within ready other feeder (suc core) feeds (λ n less. alike n (omega (arith, less))))

module _ (u : Units) (cores : List Core) (feeds : List (Option ℕ)) (memories : ℕ → List ℕ) (k : ℕ → ℕ) (came : ℕ → List ℕ) (b : Board)
    (i : Inputs) (joined : List (NetworkCore State)) (all : AllByRecursion IsCore cores) (count : length feeds ≡ length cores)
    (wired : AreWired u cores feeds memories k b i) (on : i.reset ≡ false) (stand : StandForCores u cores feeds memories k came b joined)
    (fine : AreFine u cores feeds memories k came joined) where
  abbrev net : Network State
  net = cycles_given u cores feeds came

  abbrev Among : ℕ → Core → Type 0
  Among core c = StandsAmong u cores feeds memories k b joined core c

  shows : (core : ℕ) (j : NetworkCore State) → slice_get joined core ≡ Some j
      → Shows (k core) (pins_of u cores feeds memories k b i core) (waiting_for net joined core j)
  shows core j there = making.shows u cores feeds memories k came b i joined all wired on stand fine core j there

  -- each queue has room where its circuit says so
  pub room_is : (n : ℕ) → n < length cores
      → is_set (pins_of u cores feeds memories k b i n InReady) ≡ has_room u cores feeds came k joined n
  room_is n less = by (slice_get cores n) refl where
    by : (o : Option Core) → slice_get cores n ≡ o
        → is_set (pins_of u cores feeds memories k b i n InReady) ≡ has_room u cores feeds came k joined n
    by None none = absurd (let le : length cores ≤ n = ends_before cores n none in omega (arith, le, less))
    by (Some c) there =
        let s = stand.each n c there in
        (shows n s.now s.there).ready
        ∙ sym (ap (λ (o : Option (NetworkCore State)). nat_lt (length (option_map_or (λ j. waiting_for net joined n j) o [])) (2 ^ k n)) s.there)

  -- ---- a core

  module _ (core : ℕ) (c : Core) (there : slice_get cores core ≡ Some c) (s : Among core c) where
    abbrev env : Named → ℕ
    env = lines u cores feeds memories k b i core c

    abbrev words : List ℕ
    words = waiting_for net joined core s.now

    abbrev at : State
    at = record s.now.state { rest = words }

    abbrev room : Bool
    room = i.outside core && have_room (has_room u cores feeds came k joined) core 0 feeds

    is : IsCore c
    is = all_one IsCore cores core c all there

    settled : IsSettled u c.machine (b.cores core) env
    settled = is_settled u c.machine c.code (memories core) (b.cores core) (i.cores core)

    pub step_is : after_step net core words s.now ≡ next u c.machine c.code at
    step_is = ap (λ o. option_map_or (λ x. next u x.machine x.code at) o at) there

    offered_is : is_set (env IsOffered) ≡ not (is_none (slice_get words 0))
    offered_is =
        ap is_set (enters u c.machine c.code (memories core) (b.cores core) (i.cores core)).offered ∙ (wired.each core c there).offered
        ∙ (shows core s.now s.there).valid ∙ first_of words

    ready_is : is_set (env IsReady) ≡ room
    ready_is =
        ap is_set (enters u c.machine c.code (memories core) (b.cores core) (i.cores core)).ready ∙ (wired.each core c there).ready
        ∙ ap (λ r. i.outside core && r)
        (room_within (λ n. is_set (pins_of u cores feeds memories k b i n InReady)) (has_room u cores feeds came k joined) core 0 feeds
        (λ n less. room_is n (omega (arith, less, count))))

    goes_is : s.now.state.outcome ≡ Running
        → is_set (env Goes) ≡ ((not (is_set (env Asks)) || is_set (env IsOffered)) && (not (is_set (env Gives)) || is_set (env IsReady)))
    goes_is runs =
        ap is_set settled.goes
        ∙ going (is_set (env IsReset)) (is_set (env HasHalted)) (is_set (env Asks)) (is_set (env IsOffered)) (is_set (env Gives))
        (is_set (env IsReady))
        ∙ ap (λ x. not x && (not (is_set (env HasHalted))
        && ((not (is_set (env Asks)) || is_set (env IsOffered)) && (not (is_set (env Gives)) || is_set (env IsReady)))))
        (passing.not_reset u cores feeds memories k b i wired on core c there)
        ∙ ap (λ h. not h && ((not (is_set (env Asks)) || is_set (env IsOffered)) && (not (is_set (env Gives)) || is_set (env IsReady))))
        (ap is_set settled.halted ∙ s.stands.halted ∙ ap is_halted runs)

    -- what the circuit tells of its next cycle
    pub told : s.now.state.outcome ≡ Running → Tells u c.machine c.code env at
    told runs =
        tells u c.machine c.code (b.cores core) env at is.machine is.legal
        (stands_too c.machine c.code (b.cores core) (b.cores core) s.now.state words (λ n. refl) refl refl refl s.stands) runs
        (sym (ap (λ (t : State). is_fault t.outcome) step_is) ∙ fine core s.now s.there) settled

    -- a core that has a word to put out gives one
    pub gives_word : has_word_to_put u cores feeds came k joined core s.now ≡ true → is_set (env Gives) ≡ true
    gives_word has = by s.now.state.outcome refl where
      parts : (not (is_halted s.now.state.outcome) ≡ true) × ((not (net.waits (after_step net core words s.now))
          && puts_between u cores feeds came k s.now.state (after_step net core words s.now)) ≡ true)
      parts =
          and_parts (not (is_halted s.now.state.outcome)) (not (net.waits (after_step net core words s.now))
          && puts_between u cores feeds came k s.now.state (after_step net core words s.now)) has

      goes : (not (net.waits (after_step net core words s.now)) ≡ true)
          × (puts_between u cores feeds came k s.now.state (after_step net core words s.now) ≡ true)
      goes =
          and_parts (not (net.waits (after_step net core words s.now)))
          (puts_between u cores feeds came k s.now.state (after_step net core words s.now)) parts.1

      no : (b : Bool) → not b ≡ true → b ≡ false
      no true off = sym off
      no false off = refl

      by : (o : Outcome) → s.now.state.outcome ≡ o → is_set (env Gives) ≡ true
      by Running runs =
          sym ((told runs).puts (sym (ap (λ (t : State). is_waiting t.outcome) step_is)
          ∙ sym (same_waits (after_step net core words s.now).outcome) ∙ no (net.waits (after_step net core words s.now)) goes.0))
          ∙ sym (ap (λ (t : State). nat_lt (length s.now.state.output) (length t.output)) step_is) ∙ goes.1
      by Halted halted = absurd (false≢true (sym (ap (λ (o : Outcome). not (is_halted o)) halted) ∙ parts.0))
      by Waiting waits = absurd (false≢true (sym s.goes_on ∙ ap is_waiting waits))
      by (Fault number cycle) faults = absurd (false≢true (sym s.fine ∙ ap is_fault faults))

    moves : is_set (env Goes) ≡ can_go u cores feeds came k i.outside joined core s.now
    moves = by s.now.state.outcome refl where
      by : (o : Outcome) → s.now.state.outcome ≡ o → is_set (env Goes) ≡ can_go u cores feeds came k i.outside joined core s.now
      by Running runs =
          goes_is runs
          ∙ ap (λ o. (not (is_set (env Asks)) || o) && (not (is_set (env Gives)) || is_set (env IsReady))) offered_is
          ∙ ap (λ r. (not (is_set (env Asks)) || not (is_none (slice_get words 0))) && (not (is_set (env Gives)) || r)) ready_is
          ∙ goes_by (is_set (env Asks)) (is_none (slice_get words 0)) (is_set (env Gives)) room
          (is_waiting (next u c.machine c.code at).outcome)
          (nat_lt (length at.output) (length (next u c.machine c.code at).output)) (told runs).waits (told runs).puts
          ∙ ap (λ (t : State). not (is_waiting t.outcome) && (not (nat_lt (length s.now.state.output) (length t.output)) || room))
          (sym step_is)
          ∙ ap (λ w. not w && (not (nat_lt (length s.now.state.output) (length (after_step net core words s.now).output)) || room))
          (sym (same_waits (after_step net core words s.now).outcome))
          ∙ ap (λ (o : Outcome). not (is_halted o) && (not (net.waits (after_step net core words s.now))
          && (not (nat_lt (length s.now.state.output) (length (after_step net core words s.now).output)) || room))) (sym runs)
      by Halted halted =
          halts u c.machine c.code (memories core) (b.cores core) (i.cores core)
          (ap is_set settled.halted ∙ s.stands.halted ∙ ap is_halted halted)
          ∙ ap (λ (o : Outcome). not (is_halted o) && (not (net.waits (after_step net core words s.now))
          && (not (nat_lt (length s.now.state.output) (length (after_step net core words s.now).output)) || room))) (sym halted)
      by Waiting waits = absurd (false≢true (sym s.goes_on ∙ ap is_waiting waits))
      by (Fault number cycle) faults = absurd (false≢true (sym s.fine ∙ ap is_fault faults))

pub board_moves : BoardMoves
board_moves u cores feeds memories k came b i joined all count wired on stand fine core c j there among =
    let s = stand.each core c there in
    subst (λ (j : NetworkCore State). is_set (lines u cores feeds memories k b i core c Goes)
    ≡ can_go u cores feeds came k i.outside joined core j)
    (same_Some s.now j (sym s.there ∙ among)) (moves u cores feeds memories k came b i joined all count wired on stand fine core c there s)
