-- The module makes the cycles of a network in some order, and shows the outside what the cores output.
use Rattle.std.proofs.Common.{◌≡◌, ℕ, zero, suc, ◌<◌, Bool, true, false, not, ◌&&◌, ◌||◌, nat_lt, List, [], ◌∷◌, ◌++◌, length, append-nil, Option, Some, None, refl, sym, ap, ◌∙◌}
use Rattle.std.specs.Prelude.{slice_get, if◌then◌else◌}
use Rattle.std.specs.List.{AllByRecursion}
use Rattle.std.proofs.lemmas.Bool.{ltb-true, ltb-false, false≢true}
use Rattle.std.proofs.lemmas.Option.{same_Some, slice_get_within}
use Rattle.tta_list.specs.Prefix.{IsPrefixOf}
use Rattle.tta_list.proofs.Lists.{all_one}
use Rattle.tta_list.proofs.Prefixes.{prefix_same, prefix_chain}
use Rattle.tta_ops.specs.Units.{Units}
use Rattle.tta_code.specs.Cycle.{State, Outcome, Running, Halted, Waiting, Fault}
use Rattle.tta_circuit.specs.Meaning.{is_set}
use Rattle.tta_hardware.specs.Signals.{Signal as Named, HasHalted, IsReady, IsReset, Asks, Gives, Goes, Puts, PutWord}
use Rattle.tta_hardware.specs.Stands.{is_halted}
use Rattle.tta_hardware.specs.Theorem.{is_fault, is_waiting}
use Rattle.tta_hardware.proofs.Chained.{set_bit, going}
use Rattle.tta_hardware.proofs.Circuits.{is_settled, reset_is}
use Rattle.tta_hardware.proofs.Pins.{streams_apart}
use Rattle.tta_queue.specs.Queue as queue
use Rattle.tta_kahn.specs.declared.cores.Core.{Core}
use Rattle.tta_kahn.specs.Network.{NetworkCore}
use Rattle.tta_kahn.specs.Cluster.{cluster_given}
use Rattle.tta_kahn.specs.Laws.{IsCore}
use Rattle.tta_joint.specs.Joint.{seen, new_words}
use Rattle.tta_board.specs.Board.{Board, Inputs, Powers, lines, pins_of, board_at, put_by, came_by, AreBoardClocks}
use Rattle.tta_board.specs.Laws.{StandsAmong, AreSpaces, NeverFault, HasComeBy, HasRun}
use Rattle.tta_board.proofs.Entering.{enters as given_in}
use Rattle.tta_board.proofs.Making as making
use Rattle.tta_board.proofs.Running.{board_runs, fine_so_far}
use Rattle.tta_hardware.proofs.Still.{stands_too}
use Rattle.tta_wiring.specs.Signals.{Joint, Outside, Offers, Offer, Valid, Word, Room, Rooms, feeder_at}
use Rattle.tta_wired.specs.Joining.{AreLinked, AreNet, AreNetClocks, is_open, passes, passed_by, enters, entered_by, HaveEntered}
use Rattle.tta_wired.specs.Laws.{HasRunAsNet, NetRuns}
use Rattle.tta_wired.proofs.Wired.{net_is_wired, shown, new_words_are}

-- ---- tests

-- a word that the module shows, and one that would be taken
in_turn : (valid rooms outside : Bool) → ((valid && rooms) && outside) ≡ (valid && (outside && rooms))
in_turn true true true = refl
in_turn true true false = refl
in_turn true false true = refl
in_turn true false false = refl
in_turn false rooms outside = refl

and_false : (b : Bool) → (b && false) ≡ false
and_false true = refl
and_false false = refl

and_true : (b : Bool) → (b && true) ≡ b
and_true true = refl
and_true false = refl

-- a word that is there and would be taken is put out, where no word is asked for at once: x says that all begins anew, h that the core has
-- halted, a that it asks for a word, o that one is offered, g that it has one to give, and r that it would be taken
put_where_ready : (x h a o g r : Bool) → (x ≡ false → h ≡ false → a ≡ true → g ≡ false)
    → ((not x && (not h && g)) && r) ≡ ((not x && (not h && ((not a || o) && (not g || r)))) && g)
put_where_ready true h a o g r not_both = refl
put_where_ready false true a o g r not_both = refl
put_where_ready false false a o false r not_both = sym (and_false ((not a || o) && true))
put_where_ready false false true o true r not_both = absurd (false≢true (sym (not_both refl refl refl)))
put_where_ready false false false o true r not_both = sym (and_true r)

-- ---- what has come in

module _ (u : Units) (cores : List Core) (feeds : List (Option ℕ)) (takes : ℕ → Bool) (given : ℕ → List ℕ) (memories : ℕ → List ℕ)
    (k : ℕ → ℕ) (powers : Powers) (i : ℕ → Inputs) (signals : ℕ → Joint → ℕ) (last : ℕ)
    (clocks : AreNetClocks u cores feeds takes memories k powers i signals last) where
  abbrev entered : ℕ → ℕ → List ℕ
  entered core t = entered_by u cores feeds takes memories k powers i signals core t

  abbrev came_to : ℕ → ℕ → List ℕ
  came_to core t = came_by u cores feeds memories k powers i t core

  -- the queue of a core that no other feeds has taken what has come in at the ports
  pub entered_is : (core : ℕ) → core < length cores → feeder_at feeds core ≡ None → (t : ℕ) → came_to core t ≡ entered core t
  entered_is core within unfed zero = refl
  entered_is core within unfed (suc t) =
      ap (λ (ws : List ℕ). ws ++ new_words (pins_of u cores feeds memories k (board_at u cores feeds memories k powers i t) (i t) core))
      (entered_is core within unfed t)
      ∙ ap (λ (ws : List ℕ). entered core t ++ ws)
      (new_words_are u cores feeds takes memories k (board_at u cores feeds memories k powers i t) (i t) (signals t) (clocks.joined t) core
      within unfed)

  -- where there are no ports nothing comes in
  none_enters : (core : ℕ) → is_open feeds takes core ≡ false → (t : ℕ) → entered core t ≡ []
  none_enters core closed zero = refl
  none_enters core closed (suc t) =
      ap (λ (o : Bool). entered core t
      ++ (if o && (is_set (signals t (Offers core)) && is_set (signals t (Room core))) then signals t (Offer core) ∷ [] else [])) closed
      ∙ append-nil (entered core t) ∙ none_enters core closed t

  -- and where there is no core nothing comes
  none_there : (core : ℕ) → slice_get cores core ≡ None → (t : ℕ) → came_to core t ≡ []
  none_there core none zero = refl
  none_there core none (suc t) =
      ap (λ (o : Bool). came_to core t
      ++ (if o && is_set (pins_of u cores feeds memories k (board_at u cores feeds memories k powers i t) (i t) core queue.InReady)
      then (i t).queues core queue.InData ∷ [] else [])) ((clocks.joined t).none core none).offered
      ∙ append-nil (came_to core t) ∙ none_there core none t

  nothing_first : (ws xs : List ℕ) → ws ≡ [] → IsPrefixOf ws xs
  nothing_first ws xs none = (xs, sym (ap (λ (l : List ℕ). l ++ xs) none))

  pub have_come : (t : ℕ) → HaveEntered u cores feeds takes memories k powers i signals given t
      → HasComeBy u cores feeds given memories k powers i t
  have_come t have core unfed = by (slice_get cores core) refl where
    by : (o : Option Core) → slice_get cores core ≡ o → IsPrefixOf (came_to core t) (given core)
    by None none = nothing_first (came_to core t) (given core) (none_there core none t)
    by (Some c) there = of (is_open feeds takes core) refl where
      within : core < length cores
      within = slice_get_within cores core c there

      same : came_to core t ≡ entered core t
      same = entered_is core within unfed t

      of : (b : Bool) → is_open feeds takes core ≡ b → IsPrefixOf (came_to core t) (given core)
      of true is = prefix_chain (came_to core t) (entered core t) (given core) (prefix_same _ _ same) (have core within is)
      of false closed = nothing_first (came_to core t) (given core) (same ∙ none_enters core closed t)

  -- what has come in by a clock begins what has come in by the next
  pub entered_earlier : (t : ℕ) → HaveEntered u cores feeds takes memories k powers i signals given (suc t)
      → HaveEntered u cores feeds takes memories k powers i signals given t
  entered_earlier t have core within is =
      prefix_chain (entered core t) (entered core (suc t)) (given core)
      (if enters u cores feeds takes memories k powers i signals core t then signals t (Offer core) ∷ [] else [], refl)
      (have core within is)

-- ---- the module

module _ (u : Units) (cores : List Core) (feeds : List (Option ℕ)) (takes : ℕ → Bool) (given : ℕ → List ℕ) (memories : ℕ → List ℕ)
    (spaces : List (List ℕ)) (k : ℕ → ℕ) (powers : Powers) (i : ℕ → Inputs) (signals : ℕ → Joint → ℕ) (last : ℕ)
    (all : AllByRecursion IsCore cores) (linked : AreLinked cores feeds) (sized : AreSpaces cores memories spaces)
    (never : NeverFault u cores feeds given spaces) (clocks : AreNetClocks u cores feeds takes memories k powers i signals last) where
  abbrev board : ℕ → Board
  board t = board_at u cores feeds memories k powers i t

  abbrev came : ℕ → ℕ → List ℕ
  came t = came_by u cores feeds memories k powers i t

  abbrev Entered : ℕ → Type 0
  Entered t = HaveEntered u cores feeds takes memories k powers i signals given t

  pub board_clocks : AreBoardClocks u cores feeds memories k powers i last
  board_clocks = record {
    wired = λ t. net_is_wired u cores feeds takes memories k (board t) (i t) (signals t) linked (clocks.joined t);
    reset = λ t le. sym (clocks.joined t).reset ∙ clocks.reset t le;
    on = λ t less. sym (clocks.joined t).reset ∙ clocks.on t less;
  }

  run : (t : ℕ) → last < t → Entered t → (steps : List ℕ) × HasRun u cores feeds given memories spaces k powers i t steps
  run t less have =
      board_runs u cores feeds given memories spaces k powers i last all sized never board_clocks t less
      (have_come u cores feeds takes given memories k powers i signals last clocks t have)

  earlier : (t : ℕ) → Entered (suc t) → Entered t
  earlier t have = entered_earlier u cores feeds takes given memories k powers i signals last clocks t have

  -- ---- a core at a clock

  module _ (core : ℕ) (c : Core) (there : slice_get cores core ≡ Some c) where
    abbrev env : ℕ → Named → ℕ
    env t = lines u cores feeds memories k (board t) (i t) core c

    abbrev within : core < length cores
    within = slice_get_within cores core c there

    is : IsCore c
    is = all_one IsCore cores core c all there

    reset_too : (t : ℕ) → is_set (env t IsReset) ≡ (i t).reset
    reset_too t =
        ap is_set (reset_is u c.machine c.code (memories core) ((board t).cores core) ((i t).cores core))
        ∙ ((board_clocks.wired t).each core c there).reset

    -- no word is asked for and another put out
    not_both : (t : ℕ) → Entered t → is_set (env t IsReset) ≡ false → is_set (env t HasHalted) ≡ false → is_set (env t Asks) ≡ true
        → is_set (env t Gives) ≡ false
    not_both t have on goes_on asks = at (nat_lt last t) refl where
      at : (b : Bool) → nat_lt last t ≡ b → is_set (env t Gives) ≡ false
      at false early = absurd (false≢true (sym on ∙ reset_too t ∙ board_clocks.reset t (ltb-false last t early)))
      at true late = by s.now.state.outcome refl where
        less : last < t
        less = ltb-true last t late

        joined : List (NetworkCore State)
        joined = cluster_given u cores feeds given spaces (run t less have).0

        s : StandsAmong u cores feeds memories k (board t) joined core c
        s = (run t less have).1.stand.each core c there

        now : State
        now = record s.now.state { rest = seen (pins_of u cores feeds memories k (board t) (i t) core) }

        by : (o : Outcome) → s.now.state.outcome ≡ o → is_set (env t Gives) ≡ false
        by Running runs =
            streams_apart u c.machine c.code ((board t).cores core) (env t) now is.machine is.legal
            (stands_too c.machine c.code ((board t).cores core) ((board t).cores core) s.now.state now.rest (λ n. refl) refl refl refl s.stands)
            runs
            (making.fine_at u cores feeds memories k (came t) (board t) (i t) joined all (board_clocks.wired t) (board_clocks.on t less)
            (run t less have).1.stand
            (fine_so_far u cores feeds given memories spaces k powers i last all sized never board_clocks t (run t less have).0
            (run t less have).1.come (run t less have).1.stand) core c s there)
            (is_settled u c.machine c.code (memories core) ((board t).cores core) ((i t).cores core)) asks
        by Halted halted =
            absurd (false≢true (sym goes_on
            ∙ ap is_set (is_settled u c.machine c.code (memories core) ((board t).cores core) ((i t).cores core)).halted ∙ s.stands.halted
            ∙ ap is_halted halted))
        by Waiting waits = absurd (false≢true (sym s.goes_on ∙ ap is_waiting waits))
        by (Fault number cycle) faults = absurd (false≢true (sym s.fine ∙ ap is_fault faults))

    -- a word goes to the outside where the core puts it out
    passes_is : (t : ℕ) → Entered t → passes u cores feeds takes memories k powers i signals core t ≡ is_set (env t Puts)
    passes_is t have =
        let net : AreNet u cores feeds takes memories k (board t) (i t) (signals t) = clocks.joined t in
        let joints = net.of_core core c there in
        let settled = is_settled u c.machine c.code (memories core) ((board t).cores core) ((i t).cores core) in
        let ready : is_set (env t IsReady) ≡ (is_set (signals t (Outside core)) && is_set (signals t (Rooms core))) =
        ap is_set (given_in u c.machine c.code (memories core) ((board t).cores core) ((i t).cores core)).ready
        ∙ ap is_set joints.1.1.1.1.1.0 ∙ ap is_set (net.wires_of_core core within).1.0
        ∙ set_bit (is_set (signals t (Outside core)) && is_set (signals t (Rooms core))) in
        let valid : is_set (signals t (Valid core))
        ≡ (not (is_set (env t IsReset)) && (not (is_set (env t HasHalted)) && is_set (env t Gives))) =
        ap is_set (sym joints.1.1.1.0) ∙ shown (is_set (env t IsReset)) (is_set (env t HasHalted)) (is_set (env t Gives)) in
        ap (λ v. v && is_set (signals t (Outside core))) (set_bit (is_set (signals t (Valid core)) && is_set (signals t (Rooms core))))
        ∙ in_turn (is_set (signals t (Valid core))) (is_set (signals t (Rooms core))) (is_set (signals t (Outside core)))
        ∙ ap (λ r. is_set (signals t (Valid core)) && r) (sym ready) ∙ ap (λ v. v && is_set (env t IsReady)) valid
        ∙ put_where_ready (is_set (env t IsReset)) (is_set (env t HasHalted)) (is_set (env t Asks)) _ (is_set (env t Gives))
        (is_set (env t IsReady)) (not_both t have)
        ∙ ap (λ g. g && is_set (env t Gives))
        (sym (ap is_set settled.goes
        ∙ going (is_set (env t IsReset)) (is_set (env t HasHalted)) (is_set (env t Asks)) _ (is_set (env t Gives)) (is_set (env t IsReady))))
        ∙ sym (ap is_set settled.puts ∙ set_bit (is_set (env t Goes) && is_set (env t Gives)))

    passed_is : (t : ℕ) → Entered t
        → passed_by u cores feeds takes memories k powers i signals core t ≡ put_by u cores feeds memories k powers i core c t
    passed_is zero have = refl
    passed_is (suc t) have =
        ap (λ (ws : List ℕ). ws ++ (if passes u cores feeds takes memories k powers i signals core t then signals t (Word core) ∷ [] else []))
        (passed_is t (earlier t have))
        ∙ ap (λ (w : ℕ). put_by u cores feeds memories k powers i core c t
        ++ (if passes u cores feeds takes memories k powers i signals core t then w ∷ [] else [])) (sym ((clocks.joined t).of_core core c there).1.1.1.1.0)
        ∙ ap (λ (b : Bool). put_by u cores feeds memories k powers i core c t ++ (if b then env t PutWord ∷ [] else [])) (passes_is t (earlier t have))

  -- ---- every clock

  every : (t : ℕ) → last < t → Entered t
      → (steps : List ℕ) × HasRunAsNet u cores feeds takes given memories spaces k powers i signals t steps
  every t less have = (
    (run t less have).0,
    record {
      run = (run t less have).1;
      passed = λ core c there. passed_is core c there t have ∙ (run t less have).1.put core c there;
      halted = λ core c now there among.
          let s = (run t less have).1.stand.each core c there in
          ap is_set (sym ((clocks.joined t).of_core core c there).1.0)
          ∙ ap is_set (is_settled u c.machine c.code (memories core) ((board t).cores core) ((i t).cores core)).halted ∙ s.stands.halted
          ∙ ap (λ (j : NetworkCore State). is_halted j.state.outcome) (same_Some s.now now (sym s.there ∙ among));
    },
  )

pub net_runs : NetRuns
net_runs u cores feeds takes given memories spaces k powers i signals last all linked sized never clocks t less have =
    every u cores feeds takes given memories spaces k powers i signals last all linked sized never clocks t less have
