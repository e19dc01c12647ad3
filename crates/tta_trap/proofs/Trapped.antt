-- Runs of a circuit that tells the first fault are runs of its machine up to there.
use Rattle.std.proofs.Common.{◌≡◌, ℕ, suc, ◌+◌, ◌<◌, ◌==◌, Bool, true, false, not, ◌&&◌, ◌||◌, List, [], ◌∷◌, ◌++◌, refl, sym, ap, ◌∙◌, subst, arith, append-nil}
use Rattle.std.specs.Prelude.{if◌then◌else◌, drop, slice_get}
use Rattle.std.proofs.lemmas.Bool.{false≢true, eqb-true}
use Rattle.std.proofs.lemmas.List.{drop-drop}
use Rattle.tta_list.specs.Input.{left}
use Rattle.tta_circuit.specs.Meaning.{bit}
use Rattle.tta_trap.specs.Cited.{Units, Machine, State, Outcome, Running, Halted, Waiting, Fault, next, Circuit, is_set, Store, HasHalted, IsOffered, IsReady, IsReset, Asks, Gives, Goes, Puts, PutWord, FaultNow, Watches, is_halted, is_fault, Hardware, held_after, signals_after, cycles_after, HasRunFrom, IsFed, cyc_over}
use Rattle.tta_code.specs.declared.code.Code.{Code as Program}
use Rattle.tta_hardware.specs.Signals.{Signal as Named}
use Rattle.tta_hardware.specs.Theorem.{is_waiting, HasStepped}
use Rattle.tta_hardware.specs.Runs.{taken_after, put_after}
use Rattle.tta_hardware.proofs.Still.{still_stands}
use Rattle.tta_hardware.proofs.Stepping.{one_clock}
use Rattle.tta_trap.specs.Trap.{trap_circuit}
use Rattle.tta_trap.specs.Tells.{Knows, fault_number, TellsFaults, KnowsOn}
use Rattle.tta_trap.specs.Theorem.{IsClocked}
use Rattle.tta_trap.proofs.Comes.{comes, stays_halted}
use Rattle.tta_trap.proofs.Settled.{free, free_settled, free_watched, is_settled, is_watched, goes_is, reset_is}
use Rattle.tta_trap.proofs.Clocked.{has_clocked, has_watched, has_stored, words_stay, data_stays, frame_stays}
use Rattle.tta_trap.proofs.Waited.{free_goes, puts_stop}
use Rattle.tta_trap.proofs.Lasting.{still_knows}

-- what is left of what was left
left_taken : (input : List ℕ) (k : ℕ) (b : Bool) → left b (drop k input) ≡ drop (k + bit b) input
left_taken input k true = drop-drop 1 k input
left_taken input k false = let same : k ≡ k + 0 = omega arith in ap (λ (n : ℕ). drop n input) same

no_more : (b : Bool) → (b && false) ≡ false
no_more true = refl
no_more false = refl

module _ (tells : TellsFaults) (knows_on : KnowsOn) (u : Units) (m : Machine) (code : Program)
    (had memory frame input : List ℕ) (h : Hardware) (inputs : ℕ → Named → ℕ) (last : ℕ)
    (given : IsClocked u m code had memory frame input h inputs last) where
  abbrev it : Circuit Named Store
  it = trap_circuit m code had

  abbrev held : ℕ → Hardware
  held t = held_after u it h inputs t

  abbrev env : ℕ → Named → ℕ
  env t = signals_after u it h inputs t

  abbrev cycles : ℕ → ℕ
  cycles t = cycles_after u it h inputs t

  abbrev pub state : ℕ → State
  state t = cyc_over u m code memory frame input (cycles t)

  -- After so many clocks the circuit has run to this state and knows of it; no cycle met a fault.
  pub record Reaches (t : ℕ) (s : State) : Type 0 where
    pub run : HasRunFrom u m code it h input inputs t s
    pub knows : Knows m (held t).words s
    pub sound : is_fault s.outcome ≡ false
    pub count : s.cycle ≡ cycles t

  pub is_on : (t : ℕ) → last < t → is_set (env t IsReset) ≡ false
  is_on t less = ap is_set (reset_is u m given.rules code had (held t) (inputs t)) ∙ given.clocks.on t less

  -- ---- what it tells

  pub tells_here : (t : ℕ) (s : State) → is_set (env t IsReset) ≡ false → Reaches t s
      → env t (Watches FaultNow) ≡ fault_number (next u m code s).outcome
  tells_here t s on is = by s.outcome refl where
    halted : is_halted s.outcome ≡ true → env t (Watches FaultNow) ≡ 0
    halted ends =
        (is_watched u m given.rules code had (held t) (inputs t)).fault
        ∙ test (is_set (env t IsReset)) (is_set (env t HasHalted)) _
        (ap is_set (free_settled u m given.rules code had (held t) (inputs t)).halted ∙ is.run.stands.halted ∙ ends)
      where
        test : (a b : Bool) (w : ℕ) → b ≡ true → (if is_set (bit (a || b)) then 0 else w) ≡ 0
        test true b w is = refl
        test false true w is = refl
        test false false w is = absurd (false≢true is)

    by : (o : Outcome) → s.outcome ≡ o → env t (Watches FaultNow) ≡ fault_number (next u m code s).outcome
    by Running runs =
        tells u m code (held t) (free u m given.rules code had (held t) (inputs t)) s given.rules given.legal is.run.stands is.knows runs
        (free_settled u m given.rules code had (held t) (inputs t)) (free_watched u m given.rules code had (held t) (inputs t)) on
    by Halted ends =
        halted (ap is_halted ends) ∙ sym (ap (λ (x : State). fault_number x.outcome) (stays_halted u m code s ends) ∙ ap fault_number ends)
    by Waiting waits = absurd (false≢true (sym is.run.goes_on ∙ ap is_waiting waits))
    by (Fault number cycle) bad = absurd (false≢true (sym is.sound ∙ ap is_fault bad))

  -- a number is told where the next cycle is a fault, and nowhere else
  pub told_set : (t : ℕ) (s : State) → is_set (env t IsReset) ≡ false → Reaches t s
      → is_set (env t (Watches FaultNow)) ≡ is_fault (next u m code s).outcome
  told_set t s on is = ap is_set (tells_here t s on is) ∙ by s.outcome refl where
    number_set : (n : ℕ) → 0 < n → is_set n ≡ true
    number_set n some = test (n == 0) refl where
      test : (b : Bool) → (n == 0) ≡ b → not b ≡ true
      test true none = let zero_is = eqb-true n 0 none in absurd (omega (arith, some, zero_is))
      test false is = refl

    same : (o : Outcome) → (is_fault o ≡ true → 0 < fault_number o) → is_set (fault_number o) ≡ is_fault o
    same Running some = refl
    same Halted some = refl
    same Waiting some = refl
    same (Fault number cycle) some = number_set number (some refl)

    by : (o : Outcome) → s.outcome ≡ o → is_set (fault_number (next u m code s).outcome) ≡ is_fault (next u m code s).outcome
    by Running runs = same (next u m code s).outcome (λ bad. ((comes u m code s runs).told bad).0)
    by Halted ends = same (next u m code s).outcome (λ bad. absurd (false≢true
        (sym (ap (λ (x : State). is_fault x.outcome) (stays_halted u m code s ends) ∙ ap is_fault ends) ∙ bad)))
    by Waiting waits = absurd (false≢true (sym is.run.goes_on ∙ ap is_waiting waits))
    by (Fault number cycle) bad = absurd (false≢true (sym is.sound ∙ ap is_fault bad))

  -- ---- every clock

  -- where a clock carries nothing out, all stays
  stays : (t : ℕ) (s : State) → is_set (env t IsReset) ≡ false → Reaches t s → is_set (env t Goes) ≡ false → Reaches (suc t) s
  stays t s on is stops =
      let words = words_stay u m given.rules code had (held t) (inputs t) stops on in
      let none : (k : ℕ) → k + bit false ≡ k = λ k. omega arith in record {
        run = record {
          stands = still_stands m code (held t) (held (suc t)) s words (data_stays u m given.rules code had (held t) (inputs t) stops)
              (frame_stays u m given.rules code had (held t) (inputs t) stops)
              (has_stored u m given.rules code had (held t) (inputs t)).rom is.run.stands;
          output = ap (λ b. put_after u it h inputs t ++ (if b then env t PutWord ∷ [] else []))
              (puts_stop u m given.rules code had (held t) (inputs t) stops)
              ∙ append-nil (put_after u it h inputs t) ∙ is.run.output;
          rest = is.run.rest
              ∙ sym (ap (λ b. drop (taken_after u it h inputs t + bit (b && is_set (env t Asks))) input) stops
              ∙ ap (λ (k : ℕ). drop k input) (none (taken_after u it h inputs t)));
          goes_on = is.run.goes_on;
        };
        knows = still_knows m (held (suc t)).words (held t).words s words is.knows;
        sound = is.sound;
        count = is.count ∙ sym (ap (λ b. cycles t + bit b) stops ∙ none (cycles t));
      }

  -- where it does, it makes a cycle
  steps : (t : ℕ) (s : State) → Reaches t s → s.outcome ≡ Running → is_fault (next u m code s).outcome ≡ false → is_set (env t Goes) ≡ true
      → HasStepped u m code (held (suc t)) (env t) s (next u m code s) → Knows m (held (suc t)).words (next u m code s)
      → Reaches (suc t) (next u m code s)
  steps t s is runs fine goes stepped knows = record {
    run = record {
      stands = stepped.stands;
      output = ap (λ ws. ws ++ (if is_set (env t Puts) then env t PutWord ∷ [] else [])) is.run.output ∙ sym stepped.output;
      rest = stepped.rest ∙ ap (left (is_set (env t Asks))) is.run.rest
          ∙ left_taken input (taken_after u it h inputs t) (is_set (env t Asks))
          ∙ sym (ap (λ b. drop (taken_after u it h inputs t + bit (b && is_set (env t Asks))) input) goes);
      goes_on = stepped.goes_on;
    };
    knows = knows;
    sound = fine;
    count = (comes u m code s runs).counted fine stepped.goes_on ∙ ap (λ (k : ℕ). k + 1) is.count
        ∙ sym (ap (λ b. cycles t + bit b) goes);
  }

  -- a word that is offered is the next of the rest
  pub feeds : (t : ℕ) (s : State) → last < t → Reaches t s → IsFed (env t) s.rest
  feeds t s less is offered = ap (λ (l : List ℕ). slice_get l 0) is.run.rest ∙ given.clocks.fed t less offered

  -- where a fault is told, or the machine has halted, nothing is carried out
  pub told_stops : (t : ℕ) → is_set (env t (Watches FaultNow)) ≡ true → is_set (env t Goes) ≡ false
  told_stops t told =
      goes_is u m given.rules code had (held t) (inputs t)
      ∙ ap (λ b. not b && is_set (free u m given.rules code had (held t) (inputs t) Goes)) told

  halted_stops : (t : ℕ) (s : State) → Reaches t s → is_halted s.outcome ≡ true → is_set (env t Goes) ≡ false
  halted_stops t s is ends =
      goes_is u m given.rules code had (held t) (inputs t)
      ∙ ap (λ b. not (is_set (env t (Watches FaultNow))) && b)
      (free_goes u m given.rules code had (held t) (inputs t)
      ∙ ap (λ b. not (is_set (env t IsReset)) && (not b && ((not (is_set (env t Asks)) || is_set (env t IsOffered))
      && (not (is_set (env t Gives)) || is_set (env t IsReady)))))
      (ap is_set (free_settled u m given.rules code had (held t) (inputs t)).halted ∙ is.run.stands.halted ∙ ends)
      ∙ no_more (not (is_set (env t IsReset))))
      ∙ no_more (not (is_set (env t (Watches FaultNow))))

  -- the state after one more clock, from whether it carries an instruction out
  after : (t : ℕ) (b : Bool) → is_set (env t Goes) ≡ b → Reaches (suc t) (cyc_over u m code memory frame input (cycles t + bit b))
      → Reaches (suc t) (state (suc t))
  after t b is reached = subst (λ c. Reaches (suc t) (cyc_over u m code memory frame input (cycles t + bit c))) (sym is) reached

  stays_too : (t : ℕ) → is_set (env t IsReset) ≡ false → Reaches t (state t) → is_set (env t Goes) ≡ false
      → Reaches (suc t) (state (suc t))
  stays_too t on is stops =
      let same : cycles t ≡ cycles t + bit false = omega arith in
      after t false stops (subst (λ k. Reaches (suc t) (cyc_over u m code memory frame input k)) same (stays t (state t) on is stops))

  pub one_more : (t : ℕ) → last < t → Reaches t (state t) → Reaches (suc t) (state (suc t))
  one_more t less is = by (state t).outcome refl where
    s : State
    s = state t

    on : is_set (env t IsReset) ≡ false
    on = is_on t less

    goes_on : s.outcome ≡ Running → is_fault (next u m code s).outcome ≡ false → (b : Bool) → is_set (env t Goes) ≡ b
        → Reaches (suc t) (state (suc t))
    goes_on runs fine false stops = stays_too t on is stops
    goes_on runs fine true goes =
        let quiet = told_set t s on is ∙ fine in
        let settled = is_settled u m given.rules code had (held t) (inputs t) quiet in
        let clocked = has_clocked u m given.rules code had (held t) (inputs t) goes on in
        let more : suc (cycles t) ≡ cycles t + bit true = omega arith in
        after t true goes (subst (λ k. Reaches (suc t) (cyc_over u m code memory frame input k)) more
        (steps t s is runs fine goes
        ((one_clock u m code (held t) (held (suc t)) (env t) s given.rules given.legal is.run.stands runs fine settled
        (feeds t s less is) on).0 goes clocked (has_stored u m given.rules code had (held t) (inputs t)))
        (knows_on u m code (held t) (env t) (held (suc t)).words s given.rules given.legal is.run.stands is.knows runs settled
        (is_watched u m given.rules code had (held t) (inputs t)) on fine (feeds t s less is) goes clocked
        (has_watched u m given.rules code had (held t) (inputs t) goes on))))

    runs_on : s.outcome ≡ Running → (b : Bool) → is_fault (next u m code s).outcome ≡ b → Reaches (suc t) (state (suc t))
    runs_on runs true bad = stays_too t on is (told_stops t (told_set t s on is ∙ bad))
    runs_on runs false fine = goes_on runs fine (is_set (env t Goes)) refl

    by : (o : Outcome) → s.outcome ≡ o → Reaches (suc t) (state (suc t))
    by Running runs = runs_on runs (is_fault (next u m code s).outcome) refl
    by Halted ends = stays_too t on is (halted_stops t s is (ap is_halted ends))
    by Waiting waits = absurd (false≢true (sym is.run.goes_on ∙ ap is_waiting waits))
    by (Fault number cycle) bad = absurd (false≢true (sym is.sound ∙ ap is_fault bad))
