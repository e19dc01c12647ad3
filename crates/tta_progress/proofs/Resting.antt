-- A standstill of joined circuits is final.
use Rattle.std.proofs.Common.{◌≡◌, ℕ, zero, suc, ◌<◌, ◌≤◌, ◌==◌, Bool, true, false, not, ◌&&◌, ◌||◌, nat_le, List, [], ◌∷◌, ◌++◌, length, Option, Some, None, refl, sym, ap, ◌∙◌, subst, arith}
use Rattle.std.specs.Prelude.{slice_get, fold, if◌then◌else◌}
use Rattle.std.specs.List.{AllByRecursion}
use Rattle.std.proofs.lemmas.Bool.{false≢true, eq-eqb, leb-true, leb-false, or_left, or_right}
use Rattle.tta_list.specs.Prefix.{IsPrefixOf}
use Rattle.tta_list.proofs.Prefixes.{prefix_same, prefix_chain}
use Rattle.tta_ops.specs.Units.{Units}
use Rattle.tta_code.specs.Cycle.{State}
use Rattle.tta_circuit.specs.Meaning.{is_set}
use Rattle.tta_hardware.specs.Signals.{Goes, Puts, PutWord}
use Rattle.tta_hardware.specs.Stands.{is_halted}
use Rattle.tta_kahn.specs.declared.cores.Core.{Core}
use Rattle.tta_kahn.specs.Network.{Network, NetworkCore, after_step, turn, interleaved, output_of}
use Rattle.tta_kahn.specs.Cluster.{cycles_given, cluster_given}
use Rattle.tta_kahn.specs.Laws.{IsCore}
use Rattle.tta_kahn.proofs.Clusters.{turn_none}
use Rattle.tta_joint.specs.Joint.{is_among, new_words, HaveCome, waiting_for}
use Rattle.tta_board.specs.Board.{Board, Inputs, Powers, have_room, lines, pins_of, board_at, came_by, AreBoardClocks}
use Rattle.tta_board.specs.Laws.{StandForCores, AreFine, AreSpaces, NeverFault, HasClocked, HasRun}
use Rattle.tta_board.proofs.Clocking.{board_clock}
use Rattle.tta_board.proofs.Running.{fine_so_far, came_earlier}
use Rattle.tta_progress.specs.Moves.{has_room, puts_between, can_go}
use Rattle.tta_progress.specs.Laws.{AreStill, NoneComes, BoardRests}
use Rattle.tta_progress.proofs.Moving.{board_moves}
use Rattle.tta_progress.proofs.More.{DoesSo, does_so, fed_alike, rooms_same}

-- ---- tests

-- what cannot go where words of it are taken cannot go where no more are: h says that it has halted, w that it waits, p that it puts a word
-- out, o and q that the outside takes one, and r that there is room
no_more : (h w p o q r : Bool) → (not h && (not w && (not p || (o && r)))) ≡ false → (q ≡ true → o ≡ true)
    → (not h && (not w && (not p || (q && r)))) ≡ false
no_more true w p o q r is less = refl
no_more false true p o q r is less = refl
no_more false false false o q r is less = is
no_more false false true o false r is less = refl
no_more false false true true true r is less = is
no_more false false true false true r is less = absurd (false≢true (less refl))

-- ---- no cycles

no_turns : {S : Type 0} (net : Network S) (cores : List (NetworkCore S)) (going : List ℕ)
    → ((core : ℕ) → is_among core going ≡ true → slice_get cores core ≡ None) → interleaved net cores going ≡ cores
no_turns net cores [] none = refl
no_turns net cores (g ∷ going) none =
    ap (λ cs. fold (turn net) cs going)
    (turn_none net cores g (none g (or_left (g == g) (is_among g going) (eq-eqb g g refl))))
    ∙ no_turns net cores going (λ core among. none core (or_right (g == core) (is_among core going) among))

-- what has come by a clock begins what has come later
module _ (u : Units) (cores : List Core) (feeds : List (Option ℕ)) (memories : ℕ → List ℕ) (k : ℕ → ℕ) (powers : Powers)
    (i : ℕ → Inputs) where
  came_grows : (t later core : ℕ) → t ≤ later
      → IsPrefixOf (came_by u cores feeds memories k powers i t core) (came_by u cores feeds memories k powers i later core)
  came_grows t zero core le =
      let same : t ≡ 0 = omega (arith, le) in
      prefix_same _ _ (ap (λ n. came_by u cores feeds memories k powers i n core) same)
  came_grows t (suc later) core le = by (nat_le t later) refl (came_grows t later core) where
    of : ℕ → List ℕ
    of n = came_by u cores feeds memories k powers i n core

    by : (b : Bool) → nat_le t later ≡ b → (t ≤ later → IsPrefixOf (of t) (of later))
        → IsPrefixOf (of t) (of (suc later))
    by true is rest =
        prefix_chain (of t) (of later) (of (suc later)) (rest (leb-true t later is))
        (new_words (pins_of u cores feeds memories k (board_at u cores feeds memories k powers i later) (i later) core), refl)
    by false is rest =
        let past = leb-false t later is in
        let same : t ≡ suc later = omega (arith, le, past) in
        prefix_same _ _ (ap of same)

module _ (u : Units) (cores : List Core) (feeds : List (Option ℕ)) (given : ℕ → List ℕ) (memories : ℕ → List ℕ) (spaces : List (List ℕ))
    (k : ℕ → ℕ) (powers : Powers) (i : ℕ → Inputs) (last : ℕ) (all : AllByRecursion IsCore cores) (count : length feeds ≡ length cores)
    (sized : AreSpaces cores memories spaces) (never : NeverFault u cores feeds given spaces)
    (clocks : AreBoardClocks u cores feeds memories k powers i last) (t : ℕ) (steps : List ℕ) (late : last < t)
    (run : HasRun u cores feeds given memories spaces k powers i t steps)
    (still : AreStill u cores feeds memories k (board_at u cores feeds memories k powers i t) (i t))
    (less : (later core : ℕ) → t ≤ later → (i later).outside core ≡ true → (i t).outside core ≡ true)
    (none : NoneComes u cores feeds (came_by u cores feeds memories k powers i) t (cluster_given u cores feeds given spaces steps)) where
  abbrev net : Network State
  net = cycles_given u cores feeds given

  abbrev board : ℕ → Board
  board n = board_at u cores feeds memories k powers i n

  abbrev came : ℕ → ℕ → List ℕ
  came n = came_by u cores feeds memories k powers i n

  abbrev joined : List (NetworkCore State)
  joined = cluster_given u cores feeds given spaces steps

  abbrev Run : ℕ → Type 0
  Run n = HasRun u cores feeds given memories spaces k powers i n steps

  abbrev Rests : ℕ → Type 0
  Rests n = Run n × AreStill u cores feeds memories k (board n) (i n)

  abbrev Fine : ℕ → Type 0
  Fine n = AreFine u cores feeds memories k (came n) joined

  fine : (n : ℕ) → Run n → Fine n
  fine n now = fine_so_far u cores feeds given memories spaces k powers i last all sized never clocks n steps now.come now.stand

  -- which cores can go at a clock
  moves : (n : ℕ) → last < n → Run n → (core : ℕ) (c : Core) (j : NetworkCore State)
      → slice_get cores core ≡ Some c → slice_get joined core ≡ Some j
      → is_set (lines u cores feeds memories k (board n) (i n) core c Goes) ≡ can_go u cores feeds (came n) k (i n).outside joined core j
  moves n past now core c j there among =
      board_moves u cores feeds memories k (came n) (board n) (i n) joined all count (clocks.wired n) (clocks.on n past) now.stand
      (fine n now) core c j there among

  -- what each core does on what has come by a later clock
  so : (n : ℕ) (le : t ≤ n) (core : ℕ) (j : NetworkCore State) → slice_get joined core ≡ Some j
      → DoesSo u cores feeds (came t) (came n) k all (λ c o. came_grows u cores feeds memories k powers i t n c le) joined core j
  so n le core j among =
      let begins : HaveCome (cycles_given u cores feeds (came n)) (came t) = λ c o. came_grows u cores feeds memories k powers i t n c le in
      does_so u cores feeds (came t) (came n) k all begins joined core j (run.stand.queued core j among).within
      (λ waits. fed_alike u cores feeds (came t) (came n) k all begins joined core (λ unfed. none n core j le unfed among waits))

  -- one clock more
  next : (n : ℕ) → t ≤ n → HaveCome net (came (suc n)) → Rests n → Rests (suc n)
  next n le have before = (after, stays) where
    past : last < n
    past = omega (arith, le, late)

    clock : HasClocked u cores feeds memories k given (came n) (board n) (i n) joined
    clock =
        board_clock u cores feeds memories k given (came n) (board n) (i n) joined all before.0.come (clocks.wired n) (clocks.on n past)
        before.0.stand (fine n before.0)

    none_goes : (core : ℕ) → is_among core clock.going ≡ true → slice_get joined core ≡ None
    none_goes core among = by (slice_get cores core) refl where
      by : (o : Option Core) → slice_get cores core ≡ o → slice_get joined core ≡ None
      by None none = before.0.stand.none core none
      by (Some c) there = absurd (false≢true (sym (before.1 core c there) ∙ sym (clock.exactly core c there) ∙ among))

    same : interleaved net joined clock.going ≡ joined
    same = no_turns net joined clock.going none_goes

    after : Run (suc n)
    after = record {
      come = have;
      stand = subst (StandForCores u cores feeds memories k (came (suc n)) (board (suc n))) same clock.stand;
      put = λ core c there.
          ap (λ (ws : List ℕ). ws ++ (if is_set (lines u cores feeds memories k (board n) (i n) core c Puts)
          then lines u cores feeds memories k (board n) (i n) core c PutWord ∷ [] else [])) (before.0.put core c there)
          ∙ sym (clock.puts core c there) ∙ ap (λ (cs : List (NetworkCore State)). output_of net cs core) same;
    }

    later : t ≤ suc n
    later = omega (arith, le)

    stays : AreStill u cores feeds memories k (board (suc n)) (i (suc n))
    stays core c there =
        let s = after.stand.each core c there in
        let so_far = cycles_given u cores feeds (came t) in
        let step = after_step so_far core (waiting_for so_far joined core s.now) s.now in
        let so_then = cycles_given u cores feeds (came (suc n)) in
        let then_step = after_step so_then core (waiting_for so_then joined core s.now) s.now in
        let h = is_halted s.now.state.outcome in
        let w = so_far.waits step in
        let p = puts_between u cores feeds (came t) k s.now.state step in
        let q = (i (suc n)).outside core in
        let r = have_room (has_room u cores feeds (came t) k joined) core 0 feeds in
        let does = so (suc n) later core s.now s.there in
        moves (suc n) (omega (arith, past)) after core c s.now there s.there
        ∙ ap (λ x. not h && (not x && (not (puts_between u cores feeds (came (suc n)) k s.now.state then_step)
        || (q && have_room (has_room u cores feeds (came (suc n)) k joined) core 0 feeds)))) does.waits
        ∙ ap (λ x. not h && (not w && (not x || (q && have_room (has_room u cores feeds (came (suc n)) k joined) core 0 feeds)))) does.puts
        ∙ ap (λ x. not h && (not w && (not p || (q && x))))
        (rooms_same u cores feeds (came t) (came (suc n)) k all (λ c o. came_grows u cores feeds memories k powers i t (suc n) c later) joined
        core)
        ∙ no_more h w p ((i t).outside core) q r
        (sym (moves t late run core c s.now there s.there) ∙ still core c there) (less (suc n) core later)

  rests : (n : ℕ) → t ≤ n → HaveCome net (came n) → Rests n
  rests zero le have = let same : t ≡ 0 = omega (arith, le) in subst Rests same (run, still)
  rests (suc n) le have = by (nat_le t n) refl (rests n) where
    by : (b : Bool) → nat_le t n ≡ b → (t ≤ n → HaveCome net (came n) → Rests n) → Rests (suc n)
    by true is rest =
        let l = leb-true t n is in
        next n l have (rest l (came_earlier u cores feeds given memories spaces k powers i last all sized never clocks n have))
    by false is rest =
        let same : t ≡ suc n = omega (arith, le, leb-false t n is) in
        subst Rests same (run, still)

pub board_rests : BoardRests
board_rests u cores feeds given memories spaces k powers i last all count sized never clocks t steps late run still less none later le
    have =
    rests u cores feeds given memories spaces k powers i last all count sized never clocks t steps late run still less none later le have
