-- A core whose circuit carries an instruction out makes its cycle, on the word that is seen of its queue.
use Rattle.std.proofs.Common.{◌≡◌, ℕ, Bool, true, false, List, Option, Some, refl, sym, ap, ◌∙◌}
use Rattle.std.specs.Prelude.{slice_get}
use Rattle.std.specs.Option.{option_map_or}
use Rattle.std.specs.List.{AllByRecursion}
use Rattle.std.proofs.lemmas.Bool.{false≢true}
use Rattle.tta_list.proofs.Lists.{all_one}
use Rattle.tta_board.specs.Cited.{Units, State, Outcome, Running, Halted, Waiting, Fault, next, is_set, Hardware, is_halted, is_fault, is_waiting, HasStepped, Pin, Shows, Core, Network, NetworkCore, after_step, cycles_given, IsCore, UsesQueues, seen, waiting_for}
use Rattle.tta_hardware.specs.Signals.{Signal as Named}
use Rattle.tta_hardware.proofs.Stepping.{one_clock}
use Rattle.tta_hardware.proofs.Circuits.{is_settled, has_clocked, has_stored}
use Rattle.tta_queue.proofs.Clocking.{queue_clocks}
use Rattle.tta_kahn.proofs.CoreQueues.{cores_use}
use Rattle.tta_joint.proofs.AtOnce.{step_more}
use Rattle.tta_joint.proofs.Joining.{seen_first}
use Rattle.tta_board.specs.Board.{Board, Inputs, lines, pins_of, AreWired, core_after}
use Rattle.tta_board.specs.Laws.{StandsAmong, StandForCores, AreFine}
use Rattle.tta_board.proofs.Entering.{halts}
use Rattle.tta_board.proofs.Passing as passing
use Rattle.tta_hardware.proofs.Still.{stands_too}
use Rattle.tta_board.proofs.Standing.{fault_goes}

module _ (u : Units) (cores : List Core) (feeds : List (Option ℕ)) (memories : ℕ → List ℕ) (k : ℕ → ℕ) (came : ℕ → List ℕ) (b : Board)
    (i : Inputs) (joined : List (NetworkCore State)) (all : AllByRecursion IsCore cores) (wired : AreWired u cores feeds memories k b i)
    (on : i.reset ≡ false) (stand : StandForCores u cores feeds memories k came b joined)
    (fine : AreFine u cores feeds memories k came joined) where
  abbrev net : Network State
  net = cycles_given u cores feeds came

  uses : UsesQueues net
  uses = cores_use u cores all feeds came

  abbrev env : ℕ → Pin → ℕ
  env core = pins_of u cores feeds memories k b i core

  abbrev line : ℕ → Core → Named → ℕ
  line core c = lines u cores feeds memories k b i core c

  abbrev goes_at : ℕ → Core → Bool
  goes_at core c = passing.goes_at u cores feeds memories k b i core c

  abbrev shown : ℕ → List ℕ
  shown core = seen (env core)

  abbrev held : ℕ → Core → Hardware
  held core c = core_after u cores feeds memories k b i core (Some c)

  abbrev at : ℕ → NetworkCore State → State
  at core j = record j.state { rest = shown core }

  abbrev Among : ℕ → Core → Type 0
  Among core c = StandsAmong u cores feeds memories k b joined core c

  pub step_is : (core : ℕ) (c : Core) (j : NetworkCore State) → slice_get cores core ≡ Some c
      → after_step net core (shown core) j ≡ next u c.machine c.code (at core j)
  step_is core c j there = ap (λ o. option_map_or (λ x. next u x.machine x.code (at core j)) o (at core j)) there

  pub shows : (core : ℕ) (j : NetworkCore State) → slice_get joined core ≡ Some j → Shows (k core) (env core) (waiting_for net joined core j)
  shows core j there =
      (queue_clocks u (k core) 32 (b.queues core) (waiting_for net joined core j) (i.queues core) (stand.queued core j there).inside
      (wired.reset core ∙ on)).0

  -- a cycle on what is seen is a fault only where one on all that is there is
  pub fine_at : (core : ℕ) (c : Core) (s : Among core c) → slice_get cores core ≡ Some c
      → is_fault (next u c.machine c.code (at core s.now)).outcome ≡ false
  fine_at core c s there = by (is_fault (next u c.machine c.code (at core s.now)).outcome) refl where
    first : State
    first = after_step net core (shown core) s.now

    by : (f : Bool) → is_fault (next u c.machine c.code (at core s.now)).outcome ≡ f → f ≡ false
    by false is = refl
    by true is =
        let faults : is_fault first.outcome ≡ true = ap (λ (t : State). is_fault t.outcome) (step_is core c s.now there) ∙ is in
        let begins = seen_first (k core) (env core) (waiting_for net joined core s.now) (shows core s.now s.there) in
        let more = step_more net uses core s.now (shown core) begins.0 (fault_goes first.outcome faults) in
        absurd (false≢true (sym (fine core s.now s.there)
        ∙ ap (λ (ws : List ℕ). is_fault (after_step net core ws s.now).outcome) begins.1
        ∙ ap (λ (t : State). is_fault t.outcome) more ∙ faults))

  -- ---- a core that carries an instruction out makes its cycle

  pub makes : (core : ℕ) (c : Core) → slice_get cores core ≡ Some c → (s : Among core c) → goes_at core c ≡ true
      → HasStepped u c.machine c.code (held core c) (line core c) (at core s.now) (next u c.machine c.code (at core s.now))
  makes core c there s goes = by s.now.state.outcome refl where
    is : IsCore c
    is = all_one IsCore cores core c all there

    by : (o : Outcome) → s.now.state.outcome ≡ o
        → HasStepped u c.machine c.code (held core c) (line core c) (at core s.now) (next u c.machine c.code (at core s.now))
    by Running runs =
        (one_clock u c.machine c.code (b.cores core) (held core c) (line core c) (at core s.now) is.machine is.legal
        (stands_too c.machine c.code (b.cores core) (b.cores core) s.now.state (shown core) (λ n. refl) refl refl refl s.stands) runs
        (fine_at core c s there)
        (is_settled u c.machine c.code (memories core) (b.cores core) (i.cores core))
        (passing.fed u cores feeds memories k b i wired core c there)
        (passing.not_reset u cores feeds memories k b i wired on core c there)).0
        goes (has_clocked u c.machine c.code (memories core) (b.cores core) (i.cores core) goes)
        (has_stored u c.machine c.code (memories core) (b.cores core) (i.cores core))
    by Halted halted =
        absurd (false≢true (sym (halts u c.machine c.code (memories core) (b.cores core) (i.cores core)
        (ap is_set (is_settled u c.machine c.code (memories core) (b.cores core) (i.cores core)).halted ∙ s.stands.halted
        ∙ ap is_halted halted)) ∙ goes))
    by Waiting waits = absurd (false≢true (sym s.goes_on ∙ ap is_waiting waits))
    by (Fault number cycle) faults = absurd (false≢true (sym s.fine ∙ ap is_fault faults))
