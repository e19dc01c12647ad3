-- Where links lead upwards, joined circuits come to a stand only where the network is at rest.
use Rattle.std.proofs.Common.{◌≡◌, ℕ, zero, suc, ◌+◌, ◌-◌, ◌^◌, ◌<◌, ◌≤◌, ◌==◌, Bool, true, false, not, ◌&&◌, ◌||◌, nat_lt, List, [], ◌∷◌, length, drop, Option, Some, None, refl, sym, ap, ◌∙◌, arith}
use Rattle.std.specs.Prelude.{slice_get, slice_set, is_none, map, zip, if◌then◌else◌}
use Rattle.std.specs.Option.{option_map_or}
use Rattle.std.specs.List.{AllByRecursion}
use Rattle.std.proofs.lemmas.Bool.{false≢true, eqb-true, ltb-false}
use Rattle.std.proofs.lemmas.List.{set-get_or}
use Rattle.std.proofs.lemmas.Nat.{pow_pos}
use Rattle.std.proofs.lemmas.Option.{same_Some, slice_get_within, get_or_from_slice_get}
use Rattle.tta_ops.specs.Units.{Units}
use Rattle.tta_arch.specs.Machine.{Machine}
use Rattle.tta_code.specs.Cycle.{State, Outcome, Running, Halted, Waiting, Fault, start, next, next_of}
use Rattle.tta_code.specs.declared.code.Code.{Code as Program}
use Rattle.tta_circuit.specs.Meaning.{is_set}
use Rattle.tta_hardware.specs.Signals.{Asks}
use Rattle.tta_hardware.specs.Stands.{is_halted}
use Rattle.tta_hardware.specs.Theorem.{is_fault, is_waiting}
use Rattle.tta_kahn.specs.declared.cores.Core.{Core}
use Rattle.tta_kahn.specs.Network.{Network, NetworkCore, output_of, feeder_of, after_step, turn, joined}
use Rattle.tta_kahn.specs.Cluster.{cycles_given, cluster_given, first_states, IsRestGiven}
use Rattle.tta_kahn.specs.Laws.{IsCore}
use Rattle.tta_kahn.proofs.Clusters.{next_core, turn_none, turn_some}
use Rattle.tta_kahn.proofs.CoreQueues.{cores_use}
use Rattle.tta_joint.specs.Joint.{waiting_for}
use Rattle.tta_board.specs.Board.{Board, Inputs, Powers, is_feeder, have_room, lines, board_at, came_by, AreBoardClocks}
use Rattle.tta_board.specs.Laws.{StandsAmong, AreFine, AreSpaces, NeverFault, HasRun}
use Rattle.tta_board.proofs.Running.{fine_so_far}
use Rattle.tta_board.proofs.Standing.{same_waits}
use Rattle.tta_progress.specs.Moves.{has_room, puts_between}
use Rattle.tta_progress.specs.Laws.{AreStill, AreUpwards, HaltedHaveRoom, OutsideTakes, AllHasCome, BoardFinishes}
use Rattle.tta_progress.proofs.Keeping.{KeepNone, all_keep}
use Rattle.tta_progress.proofs.Moving.{ends_before, board_moves, told, step_is}

-- ---- a queue without room

-- a queue that a core feeds and that has no room
pub record IsFull (ready : ℕ → Bool) (feeder core : ℕ) (feeds : List (Option ℕ)) : Type 0 where
  pub at : ℕ
  pub fed : slice_get feeds at ≡ Some (Some feeder)
  pub full : ready (core + at) ≡ false

-- where not all queues have room, one has none
some_full : (ready : ℕ → Bool) (feeder core : ℕ) (feeds : List (Option ℕ)) → have_room ready feeder core feeds ≡ false
    → IsFull ready feeder core feeds
some_full ready feeder core [] none = absurd (false≢true (sym none))
some_full ready feeder core (o ∷ feeds) none = by o refl (ready core) refl none (some_full ready feeder (suc core) feeds) where
  here : (n : ℕ) → n + 0 ≡ n
  here n = omega arith

  on : (n : ℕ) → core + suc n ≡ suc core + n
  on n = omega arith

  later : IsFull ready feeder (suc core) feeds → IsFull ready feeder core (o ∷ feeds)
  later is = record { at = suc is.at; fed = is.fed; full = ap ready (on is.at) ∙ is.full }

  by : (p : Option ℕ) → o ≡ p → (r : Bool) → ready core ≡ r
      → ((not (is_feeder feeder p) || r) && have_room ready feeder (suc core) feeds) ≡ false
      → (have_room ready feeder (suc core) feeds ≡ false → IsFull ready feeder (suc core) feeds) → IsFull ready feeder core (o ∷ feeds)
  by None same r is none rest = later (rest none)
  by (Some f) same r is none rest = of (f == feeder) refl r is none where
    of : (b : Bool) → (f == feeder) ≡ b → (r : Bool) → ready core ≡ r
        → ((not b || r) && have_room ready feeder (suc core) feeds) ≡ false → IsFull ready feeder core (o ∷ feeds)
    of false not_it r is none = later (rest none)
    of true it true is none = later (rest none)
    of true it false is none = record {
      at = 0;
      fed = ap (λ (p : Option ℕ). Some p) (same ∙ ap (λ (n : ℕ). Some n) (eqb-true f feeder it));
      full = ap ready (here core) ∙ is;
    }

-- ---- a turn that changes nothing

put_back : {A : Type 0} (xs : List A) (n : ℕ) (x : A) → slice_get xs n ≡ Some x → slice_set xs n x ≡ xs
put_back xs n x at = ap (slice_set xs n) (sym (get_or_from_slice_get xs n x x at)) ∙ set-get_or xs n x

-- a run that has halted stays
halted_stays : (u : Units) (m : Machine) (code : Program) (s : State) → s.outcome ≡ Halted → next u m code s ≡ s
unfolding next
halted_stays u m code s halted = ap (next_of u m code s) halted

-- cores that have made no step keep no input
none_kept : (cs : List (Core × List ℕ)) (n : ℕ) (j : NetworkCore State)
    → slice_get (joined (map (λ (c : Core × List ℕ). start c.0.machine c.1 []) cs)) n ≡ Some j → j.state.rest ≡ []
none_kept [] n j at = absurd cc
none_kept (c ∷ cs) zero j at = ap (λ (x : NetworkCore State). x.state.rest) (sym (same_Some _ j at))
none_kept (c ∷ cs) (suc n) j at = none_kept cs n j at

-- what cannot go has halted, or waits, or has a word that finds no room
why : (h w p o r : Bool) → (not h && (not w && (not p || (o && r)))) ≡ false → h ≡ false → w ≡ false
    → ((not h && (not w && p)) ≡ true → o ≡ true) → r ≡ false
why false false true true r is a b takes = is
why false false true false r is a b takes = absurd (false≢true (takes refl))
why false false false o r is a b takes = absurd (false≢true (sym is))
why true w p o r is a b takes = absurd (false≢true (sym a))
why false true p o r is a b takes = absurd (false≢true (sym b))

module _ (u : Units) (cores : List Core) (feeds : List (Option ℕ)) (given : ℕ → List ℕ) (memories : ℕ → List ℕ) (spaces : List (List ℕ))
    (k : ℕ → ℕ) (powers : Powers) (i : ℕ → Inputs) (last : ℕ) (all : AllByRecursion IsCore cores) (count : length feeds ≡ length cores)
    (sized : AreSpaces cores memories spaces) (never : NeverFault u cores feeds given spaces)
    (clocks : AreBoardClocks u cores feeds memories k powers i last) (t : ℕ) (steps : List ℕ) (late : last < t)
    (run : HasRun u cores feeds given memories spaces k powers i t steps)
    (still : AreStill u cores feeds memories k (board_at u cores feeds memories k powers i t) (i t))
    (outs : OutsideTakes u cores feeds (came_by u cores feeds memories k powers i t) k (i t).outside
    (cluster_given u cores feeds given spaces steps)) (up : AreUpwards feeds)
    (room : HaltedHaveRoom u cores feeds (came_by u cores feeds memories k powers i t) k (cluster_given u cores feeds given spaces steps))
    (whole : AllHasCome u cores feeds given (came_by u cores feeds memories k powers i t)
    (cluster_given u cores feeds given spaces steps)) where
  abbrev came : ℕ → List ℕ
  came = came_by u cores feeds memories k powers i t

  -- the network where only this has come from outside, and that where all has
  abbrev net : Network State
  net = cycles_given u cores feeds came

  abbrev all_given : Network State
  all_given = cycles_given u cores feeds given

  abbrev board : Board
  board = board_at u cores feeds memories k powers i t

  abbrev among : List (NetworkCore State)
  among = cluster_given u cores feeds given spaces steps

  abbrev Among : ℕ → Core → Type 0
  Among core c = StandsAmong u cores feeds memories k board among core c

  abbrev step : ℕ → NetworkCore State → State
  step core j = after_step net core (waiting_for net among core j) j

  fine : AreFine u cores feeds memories k came among
  fine = fine_so_far u cores feeds given memories spaces k powers i last all sized never clocks t steps run.come run.stand

  -- a core that has not halted and does not wait has a word that finds no room
  no_room : (core : ℕ) (c : Core) → slice_get cores core ≡ Some c → (s : Among core c) → is_halted s.now.state.outcome ≡ false
      → net.waits (step core s.now) ≡ false → have_room (has_room u cores feeds came k among) core 0 feeds ≡ false
  no_room core c there s runs goes =
      why (is_halted s.now.state.outcome) (net.waits (step core s.now)) (puts_between u cores feeds came k s.now.state (step core s.now))
      ((i t).outside core) (have_room (has_room u cores feeds came k among) core 0 feeds)
      (sym (board_moves u cores feeds memories k came board (i t) among all count (clocks.wired t) (clocks.on t late) run.stand
      fine core c s.now there s.there)
      ∙ still core c there)
      runs goes (outs core s.now s.there)

  -- a core before a full queue has not halted, and does not wait
  full_goes : (core : ℕ) (c : Core) → slice_get cores core ≡ Some c → (s : Among core c) → has_room u cores feeds came k among core ≡ false
      → (is_halted s.now.state.outcome ≡ false) × (net.waits (step core s.now) ≡ false)
  full_goes core c there s full = (runs, by s.now.state.outcome refl) where
    runs : is_halted s.now.state.outcome ≡ false
    runs = of (is_halted s.now.state.outcome) refl where
      of : (h : Bool) → is_halted s.now.state.outcome ≡ h → h ≡ false
      of true halted = absurd (false≢true (sym full ∙ room core s.now s.there halted))
      of false halted = refl

    some : (ws : List ℕ) → nat_lt (length ws) (2 ^ k core) ≡ false → is_none (slice_get ws 0) ≡ false
    some [] none = absurd (let le : 2 ^ k core ≤ 0 = ltb-false 0 (2 ^ k core) none in let pos = pow_pos (k core) in omega (arith, le, pos))
    some (w ∷ ws) none = refl

    has_word : is_none (slice_get (waiting_for net among core s.now) 0) ≡ false
    has_word =
        some (waiting_for net among core s.now)
        (sym (ap (λ (o : Option (NetworkCore State)). nat_lt (length (option_map_or (λ j. waiting_for net among core j) o [])) (2 ^ k core)) s.there)
        ∙ full)

    and_false : (b : Bool) → (b && false) ≡ false
    and_false true = refl
    and_false false = refl

    by : (o : Outcome) → s.now.state.outcome ≡ o → net.waits (step core s.now) ≡ false
    by Running is =
        same_waits (step core s.now).outcome
        ∙ ap (λ (x : State). is_waiting x.outcome)
        (step_is u cores feeds memories k came board (i t) among all count (clocks.wired t) (clocks.on t late) run.stand
        fine core c there s)
        ∙ (told u cores feeds memories k came board (i t) among all count (clocks.wired t) (clocks.on t late) run.stand
        fine core c there s is).waits
        ∙ ap (λ b. is_set (lines u cores feeds memories k board (i t) core c Asks) && b) has_word
        ∙ and_false (is_set (lines u cores feeds memories k board (i t) core c Asks))
    by Halted is = absurd (false≢true (sym runs ∙ ap is_halted is))
    by Waiting is = absurd (false≢true (sym s.goes_on ∙ ap is_waiting is))
    by (Fault number cycle) is = absurd (false≢true (sym s.fine ∙ ap is_fault is))

  -- ---- the core before a full queue

  -- A core that is higher than another, has not halted and does not wait.
  record IsAbove (other : ℕ) : Type 0 where
    core : ℕ
    c : Core
    there : slice_get cores core ≡ Some c
    s : Among core c
    higher : up.height other < up.height core
    within : up.height core ≤ up.most
    runs : is_halted s.now.state.outcome ≡ false
    goes : net.waits (step core s.now) ≡ false

  above : (other : ℕ) → IsFull (has_room u cores feeds came k among) other 0 feeds → IsAbove other
  above other f = by (slice_get cores f.at) refl where
    by : (o : Option Core) → slice_get cores f.at ≡ o → IsAbove other
    by None none =
        absurd (let le : length cores ≤ f.at = ends_before cores f.at none in
        let less : f.at < length feeds = slice_get_within feeds f.at (Some other) f.fed in omega (arith, le, less, count))
    by (Some c) there =
        let s = run.stand.each f.at c there in
        let here : f.at ≡ 0 + f.at = omega arith in
        let is = full_goes f.at c there s (ap (has_room u cores feeds came k among) here ∙ f.full) in
        let rises = up.rises f.at other f.fed in
        record { core = f.at; c = c; there = there; s = s; higher = rises.0; within = rises.1; runs = is.0; goes = is.1 }

  full_of : (core : ℕ) (c : Core) → slice_get cores core ≡ Some c → (s : Among core c) → is_halted s.now.state.outcome ≡ false
      → net.waits (step core s.now) ≡ false → IsAbove core
  full_of core c there s runs goes =
      above core (some_full (has_room u cores feeds came k among) core 0 feeds (no_room core c there s runs goes))

  -- so no core has a word that finds no room, since none is higher than the highest
  never_full : (left core : ℕ) (c : Core) → slice_get cores core ≡ Some c → (s : Among core c) → up.most < up.height core + left
      → is_halted s.now.state.outcome ≡ false → net.waits (step core s.now) ≡ false → false ≡ true
  never_full zero core c there s high runs goes =
      let a : IsAbove core = full_of core c there s runs goes in
      absurd (let l = a.higher in let m = a.within in omega (arith, l, m, high))
  never_full (suc left) core c there s high runs goes =
      let a : IsAbove core = full_of core c there s runs goes in
      never_full left a.core a.c a.there a.s (let l = a.higher in omega (arith, l, high)) a.runs a.goes

  -- ---- so each core stays

  -- no core keeps an input
  keep_none : KeepNone all_given (cores_use u cores all feeds given) among
  keep_none =
      all_keep all_given (cores_use u cores all feeds given) (joined (first_states cores spaces)) steps (none_kept (zip cores spaces))

  halts : (o : Outcome) → is_halted o ≡ true → o ≡ Halted
  halts Running is = absurd (false≢true is)
  halts Halted is = refl
  halts Waiting is = absurd (false≢true is)
  halts (Fault number cycle) is = absurd (false≢true is)

  -- what is left for a core that has not halted has come
  all_came : (core : ℕ) (j : NetworkCore State) → slice_get among core ≡ Some j → is_halted j.state.outcome ≡ false
      → waiting_for all_given among core j ≡ waiting_for net among core j
  all_came core j there runs = by (feeder_of net core) refl where
    by : (o : Option ℕ) → feeder_of net core ≡ o → waiting_for all_given among core j ≡ waiting_for net among core j
    by None unfed =
        ap (λ ws. drop j.taken (option_map_or (output_of net among) (feeder_of net core) ws)) (sym (whole core j unfed there runs))
    by (Some feeder) fed =
        ap (λ o. drop j.taken (option_map_or (output_of net among) o (given core))) fed
        ∙ sym (ap (λ o. drop j.taken (option_map_or (output_of net among) o (came core))) fed)

  module _ (core : ℕ) (c : Core) (there : slice_get cores core ≡ Some c) (s : Among core c) where
    abbrev words : List ℕ
    words = waiting_for all_given among core s.now

    abbrev fed : State
    fed = record s.now.state { rest = words }

    abbrev last_step : State
    last_step = after_step all_given core words s.now

    abbrev after_of : State → NetworkCore State
    after_of t = record { state = record t { rest = [] }; taken = s.now.taken + (length words - length t.rest) }

    put_same : last_step ≡ fed → after_of last_step ≡ s.now
    put_same same =
        let count : s.now.taken + (length words - length words) ≡ s.now.taken = omega arith in
        ap after_of same
        ∙ ap (λ (n : ℕ). record { state = record s.now.state { rest = [] }; taken = n }) count
        ∙ ap (λ (r : List ℕ). record { state = record s.now.state { rest = r }; taken = s.now.taken }) (sym (keep_none core s.now s.there))

    step_so : last_step ≡ next u c.machine c.code fed
    step_so = ap (λ o. option_map_or (λ x. next u x.machine x.code fed) o fed) there

    stays : next_core all_given among core s.now ≡ s.now
    stays = by (net.waits last_step) refl where
      by : (b : Bool) → net.waits last_step ≡ b → (if b then s.now else after_of last_step) ≡ s.now
      by true waits = refl
      by false goes = of (is_halted s.now.state.outcome) refl where
        of : (h : Bool) → is_halted s.now.state.outcome ≡ h → after_of last_step ≡ s.now
        of true halted =
            put_same (step_so ∙ halted_stays u c.machine c.code fed (halts s.now.state.outcome halted))
        of false runs =
            absurd (false≢true (never_full (suc up.most) core c there s (omega arith) runs
            (ap (λ ws. net.waits (after_step net core ws s.now)) (sym (all_came core s.now s.there runs)) ∙ goes)))

  rest : IsRestGiven u cores feeds given spaces steps
  rest core = by (slice_get cores core) refl where
    by : (o : Option Core) → slice_get cores core ≡ o → turn all_given among core ≡ among
    by None none = turn_none all_given among core (run.stand.none core none)
    by (Some c) there =
        let s = run.stand.each core c there in
        turn_some all_given among core s.now s.there ∙ ap (slice_set among core) (stays core c there s) ∙ put_back among core s.now s.there

pub board_finishes : BoardFinishes
board_finishes u cores feeds given memories spaces k powers i last all count sized never clocks t steps late run still outs up room whole =
    rest u cores feeds given memories spaces k powers i last all count sized never clocks t steps late run still outs up room whole
