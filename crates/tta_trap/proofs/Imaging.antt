-- The circuit that tells the first fault, and whose memory of code is filled up, or has the bits of an image, runs as its machine.
use Rattle.std.proofs.Common.{◌≡◌, ℕ, ◌<◌, true, List, length, slice_get, Some, sym, ap, ◌∙◌, subst}
use Rattle.std.specs.Prelude.{replicate, drop}
use Rattle.tta_trap.specs.Cited.{Units, Machine, IsMachine, IsLegalCode, State, Fault, next, cyc, Circuit, is_set, Store, same_signal, same_store, powered, HasHalted, IsOffered, FaultNow, Watches, code_words, signals_at, cycles_at, AreClocks, filled}
use Rattle.tta_code.specs.declared.code.Code.{Code as Program}
use Rattle.tta_hardware.specs.Signals.{Signal as Named, Offer}
use Rattle.tta_hardware.proofs.Imaged.{image_kept}
use Rattle.tta_trap.specs.Trap.{trap_with, trap_circuit}
use Rattle.tta_trap.specs.Tells.{TellsFaults, KnowsOn}
use Rattle.tta_trap.specs.Theorem.{HasTrapped}
use Rattle.tta_trap.specs.Images.{TrapRunsAlike, TrapImageRuns, ShowsTrapped, TrapFilledShows}
use Rattle.tta_trap.proofs.CodeHeld.{powered_holds}
use Rattle.tta_trap.proofs.Filled.{runs_alike}
use Rattle.tta_trap.proofs.Stopped.{trap_runs}

module _ (tells : TellsFaults) (knows_on : KnowsOn) where
  -- from the power on
  pub powered_runs : (u : Units) (m : Machine) (code : Program) (memory input : List ℕ) (powers : Named → ℕ) (inputs : ℕ → Named → ℕ)
      → IsMachine m → IsLegalCode m code → length memory ≡ m.data_words
      → (last : ℕ) → AreClocks u (trap_circuit m code memory) input powers inputs last → (t : ℕ) → last < t
      → HasTrapped u m code (trap_circuit m code memory) (powered same_signal same_store (trap_circuit m code memory) powers) input inputs t
      (cyc u m code memory input (cycles_at u (trap_circuit m code memory) powers inputs t))
  powered_runs u m code memory input powers inputs rules legal sized last clocks t less =
      trap_runs tells knows_on u m code memory memory (replicate m.frame_words 0) input
      (powered same_signal same_store (trap_circuit m code memory) powers) inputs last
      (record { rules = rules; legal = legal; holds = powered_holds m code memory powers sized; clocks = clocks }) t less

  pub trap_image_runs : TrapImageRuns
  trap_image_runs u m digest whole bytes memory input powers inputs rules many image sized =
      subst (λ (ws : List ℕ). (last : ℕ) → AreClocks u (trap_with m (length whole.code.words) ws memory) input powers inputs last
      → (t : ℕ) → last < t
      → HasTrapped u m whole.code (trap_with m (length whole.code.words) ws memory)
      (powered same_signal same_store (trap_with m (length whole.code.words) ws memory) powers) input inputs t
      (cyc u m whole.code memory input (cycles_at u (trap_with m (length whole.code.words) ws memory) powers inputs t)))
      (sym (image_kept m digest whole bytes rules many image))
      (powered_runs u m whole.code memory input powers inputs rules image.legal sized)

  module _ (u : Units) (m : Machine) (code : Program) (memory input : List ℕ) (powers : Named → ℕ) (inputs : ℕ → Named → ℕ)
      (rules : IsMachine m) (legal : IsLegalCode m code) (sized : length memory ≡ m.data_words) (last : ℕ)
      (clocks : AreClocks u (trap_with m (length code.words) (filled m (code_words m code)) memory) input powers inputs last)
      (t : ℕ) (less : last < t) where
    abbrev c : Circuit Named Store
    c = trap_circuit m code memory

    abbrev c' : Circuit Named Store
    c' = trap_with m (length code.words) (filled m (code_words m code)) memory

    alike : (k : ℕ) → TrapRunsAlike u m (length code.words) (code_words m code) memory powers inputs k
    alike k = runs_alike u m (length code.words) (code_words m code) memory powers inputs k

    -- the same clocks
    given : AreClocks u c input powers inputs last
    given = record {
      reset = clocks.reset;
      on = clocks.on;
      fed = λ k later offered.
          ap (λ (n : ℕ). slice_get (drop n input) 0) (sym (alike k).taken)
          ∙ clocks.fed k later (ap is_set ((alike k).settled IsOffered) ∙ offered) ∙ ap (λ (n : ℕ). Some n) ((alike k).settled Offer);
    }

    abbrev state : ℕ → State
    state n = cyc u m code memory input n

    run : HasTrapped u m code c (powered same_signal same_store c powers) input inputs t (state (cycles_at u c powers inputs t))
    run = powered_runs u m code memory input powers inputs rules legal sized last given t less

    tells_alike : signals_at u c' powers inputs t (Watches FaultNow) ≡ signals_at u c powers inputs t (Watches FaultNow)
    tells_alike = (alike t).settled (Watches FaultNow)

    told : is_set (signals_at u c' powers inputs t (Watches FaultNow)) ≡ true
        → (next u m code (state (cycles_at u c powers inputs t))).outcome
        ≡ Fault (signals_at u c' powers inputs t (Watches FaultNow)) (cycles_at u c' powers inputs t)
    told is =
        run.fault (ap is_set (sym tells_alike) ∙ is)
        ∙ ap (λ n. Fault n (cycles_at u c powers inputs t)) (sym tells_alike)
        ∙ ap (λ n. Fault (signals_at u c' powers inputs t (Watches FaultNow)) n) (sym (alike t).cycles)

    pub shows : ShowsTrapped u m code c' input powers inputs t (state (cycles_at u c' powers inputs t))
    shows = subst (λ n. ShowsTrapped u m code c' input powers inputs t (state n)) (sym (alike t).cycles) (record {
      output = (alike t).put ∙ run.runs.output;
      rest = run.runs.rest ∙ ap (λ (n : ℕ). drop n input) (sym (alike t).taken);
      halted = ap is_set ((alike t).held HasHalted) ∙ run.runs.stands.halted;
      data_space = (alike t).data_space ∙ run.runs.stands.spaces.memory;
      frame_space = (alike t).frame_space ∙ run.runs.stands.spaces.frame;
      goes_on = run.runs.goes_on;
      sound = run.sound;
      count = run.count ∙ sym (alike t).cycles;
      fault = told;
      fine = λ none. run.fine (ap is_set (sym tells_alike) ∙ none);
    })

  pub trap_filled_shows : TrapFilledShows
  trap_filled_shows u m code memory input powers inputs rules legal sized last clocks t less =
      shows u m code memory input powers inputs rules legal sized last clocks t less
