-- Any number of clocks of circuits that stand for cores of a network.
use Rattle.std.proofs.Common.{◌≡◌, ℕ, zero, suc, ◌≤◌, ◌<◌, Bool, true, false, nat_lt, List, [], ◌∷◌, ◌++◌, Option, Some, refl, sym, ap, ◌∙◌, subst, arith}
use Rattle.std.specs.Prelude.{slice_get, if◌then◌else◌}
use Rattle.std.specs.List.{AllByRecursion}
use Rattle.std.proofs.lemmas.Bool.{ltb-true, ltb-false}
use Rattle.std.proofs.lemmas.List.Sums.{fold-append}
use Rattle.tta_board.specs.Cited.{Units, State, is_set, Puts, PutWord, is_fault, Core, Network, NetworkCore, joined, after_step, turn, interleaved, output_of, cycles_given, first_states, cluster_given, IsCore, UsesQueues, HaveCome, waiting_for}
use Rattle.tta_kahn.proofs.Clusters.{next_core, turn_here}
use Rattle.tta_kahn.proofs.CoreQueues.{cores_use}
use Rattle.tta_joint.proofs.AtOnce.{step_more, stepped_goes}
use Rattle.tta_joint.proofs.Joining.{left_begins, came_before}
use Rattle.tta_board.specs.Board.{Inputs, Powers, lines, pins_of, board_at, came_by, AreBoardClocks}
use Rattle.tta_board.specs.Laws.{StandForCores, AreFine, HasClocked, AreSpaces, NeverFault, HasRun, BoardRuns}
use Rattle.tta_board.proofs.Standing.{wait_fine}
use Rattle.tta_board.proofs.Clocking.{board_clock}
use Rattle.tta_board.proofs.Beginning.{silent, put_none, none_came, first_stand}

module _ (u : Units) (cores : List Core) (feeds : List (Option ℕ)) (given : ℕ → List ℕ) (memories : ℕ → List ℕ) (spaces : List (List ℕ))
    (k : ℕ → ℕ) (powers : Powers) (i : ℕ → Inputs) (last : ℕ) (all : AllByRecursion IsCore cores) (sized : AreSpaces cores memories spaces)
    (never : NeverFault u cores feeds given spaces) (clocks : AreBoardClocks u cores feeds memories k powers i last) where
  abbrev net : Network State
  net = cycles_given u cores feeds given

  uses : UsesQueues net
  uses = cores_use u cores all feeds given

  abbrev after : List ℕ → List (NetworkCore State)
  after steps = cluster_given u cores feeds given spaces steps

  -- the words that have come from outside by so many clocks
  abbrev came : ℕ → ℕ → List ℕ
  came t = came_by u cores feeds memories k powers i t

  abbrev Stand : ℕ → List (NetworkCore State) → Type 0
  Stand t joined = StandForCores u cores feeds memories k (came t) (board_at u cores feeds memories k powers i t) joined

  -- more cycles after some
  more_steps : (steps more : List ℕ) → after (steps ++ more) ≡ interleaved net (after steps) more
  more_steps steps more = fold-append (turn net) (joined (first_states cores spaces)) steps more

  -- no next cycle is a fault, for the core would be at one after it
  pub fine_next : (steps : List ℕ) → AreFine u cores feeds memories k given (after steps)
  fine_next steps core j there = by (net.waits next) refl where
    next : State
    next = after_step net core (waiting_for net (after steps) core j) j

    there_next : slice_get (after (steps ++ core ∷ [])) core ≡ Some (next_core net (after steps) core j)
    there_next =
        ap (λ (cs : List (NetworkCore State)). slice_get cs core) (more_steps steps (core ∷ [])) ∙ turn_here net (after steps) core j there

    by : (w : Bool) → net.waits next ≡ w → is_fault next.outcome ≡ false
    by true waits = wait_fine next.outcome waits
    by false goes =
        sym (ap (λ (x : NetworkCore State). is_fault x.state.outcome)
        (stepped_goes net uses core j (waiting_for net (after steps) core j) goes))
        ∙ never (steps ++ core ∷ []) core (next_core net (after steps) core j) there_next

  -- nor is one on the words that have come: it waits, or it does the same
  pub fine_so_far : (t : ℕ) (steps : List ℕ) → HaveCome net (came t) → Stand t (after steps)
      → AreFine u cores feeds memories k (came t) (after steps)
  fine_so_far t steps have stand core j there = by (net.waits next) refl where
    now : List ℕ
    now = waiting_for (cycles_given u cores feeds (came t)) (after steps) core j

    next : State
    next = after_step net core now j

    by : (w : Bool) → net.waits next ≡ w → is_fault next.outcome ≡ false
    by true waits = wait_fine next.outcome waits
    by false goes =
        let more = left_begins net (came t) have (after steps) core j (stand.queued core j there).within in
        sym (ap (λ (s : State). is_fault s.outcome) (ap (λ (ws : List ℕ). after_step net core ws j) more.1
        ∙ step_more net uses core j now more.0 goes))
        ∙ fine_next steps core j there

  abbrev Run : ℕ → Type 0
  Run t = (steps : List ℕ) × HasRun u cores feeds given memories spaces k powers i t steps

  first : Run (suc last)
  first = (
    [],
    record {
      come = λ core none. (
        given core,
        sym (ap (λ (ws : List ℕ). ws ++ given core) (none_came u cores feeds memories spaces k sized powers i last all clocks core)),
      );
      stand = first_stand u cores feeds memories spaces k sized powers i last all clocks;
      put = λ core c there.
          put_none u cores feeds memories spaces k sized powers i last all clocks core c there (suc last) (omega arith)
          ∙ sym (silent u cores feeds memories spaces k sized core);
    },
  )

  one_more : (t : ℕ) → last < t → HaveCome net (came (suc t)) → Run t → Run (suc t)
  one_more t less have before =
      let now = before.1.come in
      let steps = before.0 in
      let board = board_at u cores feeds memories k powers i t in
      let clock : HasClocked u cores feeds memories k given (came t) board (i t) (after steps) =
      board_clock u cores feeds memories k given (came t) board (i t) (after steps) all now (clocks.wired t) (clocks.on t less)
      before.1.stand (fine_so_far t steps now before.1.stand) in
      let same : after (steps ++ clock.going) ≡ interleaved net (after steps) clock.going = more_steps steps clock.going in (
        steps ++ clock.going,
        record {
          come = have;
          stand = subst (Stand (suc t)) (sym same) clock.stand;
          put = λ core c there.
              ap (λ (ws : List ℕ). ws ++ (if is_set (lines u cores feeds memories k board (i t) core c Puts)
              then lines u cores feeds memories k board (i t) core c PutWord ∷ [] else [])) (before.1.put core c there)
              ∙ sym (clock.puts core c there) ∙ ap (λ (cs : List (NetworkCore State)). output_of net cs core) (sym same);
        },
      )

  -- what has come by a clock begins what has come by the next
  pub came_earlier : (t : ℕ) → HaveCome net (came (suc t)) → HaveCome net (came t)
  came_earlier t have =
      came_before net (came t) (pins_of u cores feeds memories k (board_at u cores feeds memories k powers i t) (i t)) have

  every : (t : ℕ) → last < t → HaveCome net (came t) → Run t
  every zero less have = absurd (omega (arith, less))
  every (suc t) less have = by (nat_lt last t) refl (every t) where
    by : (b : Bool) → nat_lt last t ≡ b → (last < t → HaveCome net (came t) → Run t) → Run (suc t)
    by true is run =
        let lt = ltb-true last t is in
        one_more t lt have (run lt (came_earlier t have))
    by false is run =
        let le : t ≤ last = ltb-false last t is in
        let same : last ≡ t = omega (arith, le, less) in
        subst (λ n. Run (suc n)) same first

pub board_runs : BoardRuns
board_runs u cores feeds given memories spaces k powers i last all sized never clocks t less have =
    every u cores feeds given memories spaces k powers i last all sized never clocks t less have
