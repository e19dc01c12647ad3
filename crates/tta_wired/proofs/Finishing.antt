-- Where the module has stopped, it has shown the outside all that the network outputs.
use Rattle.std.proofs.Common.{◌≡◌, ℕ, ◌<◌, Bool, true, not, ◌&&◌, List, length, Option, Some, None, refl, sym, ap, ◌∙◌, subst}
use Rattle.std.specs.Prelude.{slice_get}
use Rattle.std.specs.List.{AllByRecursion}
use Rattle.std.proofs.lemmas.Bool.{and_parts}
use Rattle.std.proofs.lemmas.Option.{same_Some, slice_get_within}
use Rattle.tta_list.specs.Prefix.{IsPrefixOf}
use Rattle.tta_ops.specs.Units.{Units}
use Rattle.tta_code.specs.Cycle.{State}
use Rattle.tta_circuit.specs.Meaning.{is_set}
use Rattle.tta_hardware.specs.Signals.{Signal as Named, HasHalted, IsReset, Gives}
use Rattle.tta_hardware.specs.Stands.{is_halted}
use Rattle.tta_hardware.proofs.Circuits.{is_settled}
use Rattle.tta_kahn.specs.declared.cores.Core.{Core}
use Rattle.tta_kahn.specs.Network.{NetworkCore}
use Rattle.tta_kahn.specs.Cluster.{cluster_given, output_given, IsRestGiven}
use Rattle.tta_kahn.specs.Laws.{IsCore}
use Rattle.tta_kahn.proofs.Orders.{cores_compare}
use Rattle.tta_board.specs.Board.{Board, Inputs, Powers, lines, board_at, came_by, AreBoardClocks}
use Rattle.tta_board.specs.Laws.{StandsAmong, AreFine, AreSpaces, NeverFault}
use Rattle.tta_board.proofs.Passing as passing
use Rattle.tta_board.proofs.Running.{fine_so_far}
use Rattle.tta_progress.specs.Moves.{has_room, has_word_to_put}
use Rattle.tta_progress.specs.Laws.{AreStill, AreUpwards, HaltedHaveRoom, OutsideTakes, AllHasCome}
use Rattle.tta_progress.proofs.Moving.{room_is, gives_word}
use Rattle.tta_progress.proofs.Finishing.{board_finishes}
use Rattle.tta_wiring.specs.Signals.{Joint, Valid}
use Rattle.tta_wired.specs.Joining.{AreLinked, AreNetClocks, entered_by, HaveEntered}
use Rattle.tta_wired.specs.Laws.{HasRunAsNet, HasStopped, AllHasEntered, NetFinishes}
use Rattle.tta_wired.proofs.Running.{board_clocks, entered_is, net_runs}
use Rattle.tta_wired.proofs.Wired.{shown}

module _ (u : Units) (cores : List Core) (feeds : List (Option ℕ)) (takes_words : ℕ → Bool) (given : ℕ → List ℕ) (memories : ℕ → List ℕ)
    (spaces : List (List ℕ)) (k : ℕ → ℕ) (powers : Powers) (i : ℕ → Inputs) (signals : ℕ → Joint → ℕ) (last : ℕ)
    (all : AllByRecursion IsCore cores) (linked : AreLinked cores feeds) (sized : AreSpaces cores memories spaces)
    (never : NeverFault u cores feeds given spaces) (clocks : AreNetClocks u cores feeds takes_words memories k powers i signals last)
    (up : AreUpwards feeds) (t : ℕ) (late : last < t) (have : HaveEntered u cores feeds takes_words memories k powers i signals given t)
    (stopped : HasStopped cores (signals t))
    (whole : AllHasEntered cores feeds given (signals t)
    (λ core. entered_by u cores feeds takes_words memories k powers i signals core t)) where
  pub made : (steps : List ℕ) × HasRunAsNet u cores feeds takes_words given memories spaces k powers i signals t steps
  made =
      net_runs u cores feeds takes_words given memories spaces k powers i signals last all linked sized never clocks t late have

  abbrev steps : List ℕ
  steps = made.0

  abbrev among : List (NetworkCore State)
  among = cluster_given u cores feeds given spaces steps

  abbrev came : ℕ → List ℕ
  came = came_by u cores feeds memories k powers i t

  abbrev board : Board
  board = board_at u cores feeds memories k powers i t

  abbrev env : ℕ → Core → Named → ℕ
  env core c = lines u cores feeds memories k board (i t) core c

  on_board : AreBoardClocks u cores feeds memories k powers i last
  on_board = board_clocks u cores feeds takes_words given memories spaces k powers i signals last all linked sized never clocks

  fine : AreFine u cores feeds memories k came among
  fine = fine_so_far u cores feeds given memories spaces k powers i last all sized never on_board t steps made.1.run.come made.1.run.stand

  still : AreStill u cores feeds memories k board (i t)
  still core c there =
      ap is_set ((clocks.joined t).of_core core c there).1.1.0 ∙ stopped.still core (slice_get_within cores core c there)

  -- ---- a core

  module _ (core : ℕ) (c : Core) (there : slice_get cores core ≡ Some c) where
    abbrev s : StandsAmong u cores feeds memories k board among core c
    s = made.1.run.stand.each core c there

    abbrev within : core < length cores
    within = slice_get_within cores core c there

    -- whether it has halted, as its circuit holds it
    halted_is : is_set (env core c HasHalted) ≡ is_halted s.now.state.outcome
    halted_is =
        ap is_set (is_settled u c.machine c.code (memories core) (board.cores core) ((i t).cores core)).halted ∙ s.stands.halted

    -- a word that it has to put out is shown, and so the outside takes it
    takes : has_word_to_put u cores feeds came k among core s.now ≡ true → (i t).outside core ≡ true
    takes has =
        let gives = gives_word u cores feeds memories k came board (i t) among all linked.count (on_board.wired t) (on_board.on t late)
        made.1.run.stand fine core c there s has in
        let goes_on = (and_parts (not (is_halted s.now.state.outcome)) _ has).0 in
        let valid : is_set (signals t (Valid core)) ≡ true =
        ap is_set (sym ((clocks.joined t).of_core core c there).1.1.1.0)
        ∙ shown (is_set (env core c IsReset)) (is_set (env core c HasHalted)) (is_set (env core c Gives))
        ∙ ap (λ x. not x && (not (is_set (env core c HasHalted)) && is_set (env core c Gives)))
        (passing.not_reset u cores feeds memories k board (i t) (on_board.wired t) (on_board.on t late) core c there)
        ∙ ap (λ h. not h && is_set (env core c Gives)) halted_is
        ∙ ap (λ n. n && is_set (env core c Gives)) goes_on ∙ gives in
        sym ((clocks.joined t).outside core within) ∙ stopped.taken core within valid

    -- where it has halted, its queue has room
    has_space : is_halted s.now.state.outcome ≡ true → has_room u cores feeds came k among core ≡ true
    has_space halted =
        sym (room_is u cores feeds memories k came board (i t) among all linked.count (on_board.wired t) (on_board.on t late)
        made.1.run.stand fine core within)
        ∙ ap is_set ((clocks.joined t).of_queue core within).1.1.1.0
        ∙ stopped.room core within
        (ap is_set (sym ((clocks.joined t).of_core core c there).1.0) ∙ halted_is ∙ halted)

  outs : OutsideTakes u cores feeds came k (i t).outside among
  outs core j at has = by (slice_get cores core) refl where
    by : (o : Option Core) → slice_get cores core ≡ o → (i t).outside core ≡ true
    by None none = absurd (let e : None ≡ Some j = sym (made.1.run.stand.none core none) ∙ at in cc)
    by (Some c) there =
        takes core c there
        (subst (λ (x : NetworkCore State). has_word_to_put u cores feeds came k among core x ≡ true)
        (same_Some j (made.1.run.stand.each core c there).now (sym at ∙ (made.1.run.stand.each core c there).there)) has)

  room : HaltedHaveRoom u cores feeds came k among
  room core j at halted = by (slice_get cores core) refl where
    by : (o : Option Core) → slice_get cores core ≡ o → has_room u cores feeds came k among core ≡ true
    by None none = absurd (let e : None ≡ Some j = sym (made.1.run.stand.none core none) ∙ at in cc)
    by (Some c) there =
        has_space core c there
        (subst (λ (x : NetworkCore State). is_halted x.state.outcome ≡ true)
        (same_Some j (made.1.run.stand.each core c there).now (sym at ∙ (made.1.run.stand.each core c there).there)) halted)

  -- all that a core is given has come to its queue
  all_came : AllHasCome u cores feeds given came among
  all_came core j unfed at goes_on = by (slice_get cores core) refl where
    by : (o : Option Core) → slice_get cores core ≡ o → came core ≡ given core
    by None none = absurd (let e : None ≡ Some j = sym (made.1.run.stand.none core none) ∙ at in cc)
    by (Some c) there =
        entered_is u cores feeds takes_words given memories k powers i signals last clocks core (slice_get_within cores core c there) unfed
        t
        ∙ whole core (slice_get_within cores core c there) unfed
        (ap is_set (sym ((clocks.joined t).of_core core c there).1.0) ∙ halted_is core c there
        ∙ ap (λ (x : NetworkCore State). is_halted x.state.outcome)
        (same_Some (made.1.run.stand.each core c there).now j (sym (made.1.run.stand.each core c there).there ∙ at)) ∙ goes_on)

  pub rest : IsRestGiven u cores feeds given spaces steps
  rest =
      board_finishes u cores feeds given memories spaces k powers i last all linked.count sized never on_board t steps late made.1.run still
      outs up room all_came

pub net_finishes : NetFinishes
net_finishes u cores feeds takes given memories spaces k powers i signals last all linked sized never clocks up t late have stopped whole
    core c there others =
    let m = made u cores feeds takes given memories spaces k powers i signals last all linked sized never clocks up t late have stopped
    whole in
    subst (IsPrefixOf (output_given u cores feeds given spaces others core)) (sym (m.1.passed core c there))
    ((cores_compare u cores feeds given spaces all).beyond m.0 others core
    (rest u cores feeds takes given memories spaces k powers i signals last all linked sized never clocks up t late have stopped whole))
