-- What a circuit tells and where it stops, at every clock.
use Rattle.std.proofs.Common.{◌≡◌, ℕ, zero, suc, ◌+◌, ◌<◌, ◌≤◌, Bool, true, false, not, ◌&&◌, ◌||◌, List, [], refl, sym, ap, ◌∙◌, subst, arith}
use Rattle.std.specs.Prelude.{drop, nat_lt}
use Rattle.std.proofs.lemmas.Bool.{false≢true, ltb-true, ltb-false}
use Rattle.tta_circuit.specs.Meaning.{bit}
use Rattle.tta_trap.specs.Cited.{Units, Machine, State, Outcome, Running, Halted, Waiting, Fault, next, Circuit, is_set, Store, HasHalted, IsOffered, IsReady, IsReset, Asks, Gives, Goes, FaultNow, Watches, is_halted, is_fault, Hardware, held_after, signals_after, cycles_after, cyc_over}
use Rattle.tta_code.specs.declared.code.Code.{Code as Program}
use Rattle.tta_hardware.specs.Signals.{Signal as Named}
use Rattle.tta_hardware.specs.Theorem.{is_waiting}
use Rattle.tta_hardware.proofs.Stepping.{one_clock}
use Rattle.tta_trap.specs.Trap.{trap_circuit}
use Rattle.tta_trap.specs.Tells.{fault_number, TellsFaults, KnowsOn}
use Rattle.tta_trap.specs.Theorem.{IsClocked, HasTrapped, TrapRuns, TrapStays, IsHeld, TrapStandsStill}
use Rattle.tta_trap.proofs.Comes.{comes, stays_halted}
use Rattle.tta_trap.proofs.Settled.{free_settled, is_settled, goes_is}
use Rattle.tta_trap.proofs.Waited.{waited, first_stands, first_knows, free_goes}
use Rattle.tta_trap.proofs.Trapped.{state, Reaches, is_on, feeds, tells_here, told_set, told_stops, one_more}

module _ (tells : TellsFaults) (knows_on : KnowsOn) (u : Units) (m : Machine) (code : Program)
    (had memory frame input : List ℕ) (h : Hardware) (inputs : ℕ → Named → ℕ) (last : ℕ)
    (given : IsClocked u m code had memory frame input h inputs last) where
  abbrev it : Circuit Named Store
  it = trap_circuit m code had

  abbrev held : ℕ → Hardware
  held t = held_after u it h inputs t

  abbrev env : ℕ → Named → ℕ
  env t = signals_after u it h inputs t

  abbrev cycles : ℕ → ℕ
  cycles t = cycles_after u it h inputs t

  abbrev at : ℕ → State
  at t = state tells knows_on u m code had memory frame input h inputs last given t

  abbrev Here : (t : ℕ) → State → Type 0
  Here t s = Reaches tells knows_on u m code had memory frame input h inputs last given t s

  -- ---- every clock

  -- the first clock after those that begin anew
  first_reached : Here (suc last) (at (suc last))
  first_reached =
      let all = waited u m code had memory frame input h inputs given.rules given.holds given.legal last given.clocks.reset (suc last)
      (omega arith) in
      subst (λ k. Here (suc last) (cyc_over u m code memory frame input k)) (sym all.none) (record {
        run = record {
          stands = first_stands u m code had memory frame input h inputs given.rules given.holds given.legal last given.clocks.reset;
          output = all.silent;
          rest = sym (ap (λ (k : ℕ). drop k input) all.untaken);
          goes_on = refl;
        };
        knows = first_knows u m code had memory frame input h inputs given.rules given.holds given.legal last given.clocks.reset;
        sound = refl;
        count = sym all.none;
      })

  -- and so all
  pub every : (t : ℕ) → last < t → Here t (at t)
  every zero less = absurd (omega (arith, less))
  every (suc t) less = by (nat_lt last t) refl (every t) where
    by : (b : Bool) → nat_lt last t ≡ b → (last < t → Here t (at t)) → Here (suc t) (at (suc t))
    by true is before = let lt = ltb-true last t is in
        one_more tells knows_on u m code had memory frame input h inputs last given t lt (before lt)
    by false is before =
        let le : t ≤ last = ltb-false last t is in
        let same : last ≡ t = omega (arith, le, less) in
        subst (λ k. Here (suc k) (at (suc k))) same first_reached

  on : (t : ℕ) → last < t → is_set (env t IsReset) ≡ false
  on t less = is_on tells knows_on u m code had memory frame input h inputs last given t less

  told : (t : ℕ) → last < t → env t (Watches FaultNow) ≡ fault_number (next u m code (at t)).outcome
  told t less = tells_here tells knows_on u m code had memory frame input h inputs last given t (at t) (on t less) (every t less)

  pub set : (t : ℕ) → last < t → is_set (env t (Watches FaultNow)) ≡ is_fault (next u m code (at t)).outcome
  set t less = told_set tells knows_on u m code had memory frame input h inputs last given t (at t) (on t less) (every t less)

  -- the fault of the next cycle
  named : (t : ℕ) → last < t → is_set (env t (Watches FaultNow)) ≡ true
      → (next u m code (at t)).outcome ≡ Fault (env t (Watches FaultNow)) (cycles t)
  named t less is = by (at t).outcome refl where
    bad : is_fault (next u m code (at t)).outcome ≡ true
    bad = sym (set t less) ∙ is

    here : Here t (at t)
    here = every t less

    by : (o : Outcome) → (at t).outcome ≡ o → (next u m code (at t)).outcome ≡ Fault (env t (Watches FaultNow)) (cycles t)
    by Running runs =
        ((comes u m code (at t) runs).told bad).1 ∙ ap (λ n. Fault n (at t).cycle) (sym (told t less))
        ∙ ap (λ n. Fault (env t (Watches FaultNow)) n) here.count
    by Halted ends =
        absurd (false≢true (sym (ap (λ (x : State). is_fault x.outcome) (stays_halted u m code (at t) ends) ∙ ap is_fault ends) ∙ bad))
    by Waiting waits = absurd (false≢true (sym here.run.goes_on ∙ ap is_waiting waits))
    by (Fault number cycle) wrong = absurd (false≢true (sym here.sound ∙ ap is_fault wrong))

  pub trapped : (t : ℕ) → last < t → HasTrapped u m code it h input inputs t (at t)
  trapped t less =
      let here = every t less in record {
        runs = here.run;
        sound = here.sound;
        count = here.count;
        fault = named t less;
        fine = λ none. sym (set t less) ∙ none;
      }

  -- ---- a fault that is told

  -- no further cycle is made
  same_cycles : (t : ℕ) → last < t → is_set (env t (Watches FaultNow)) ≡ true → (more : ℕ)
      → (cycles (t + more) ≡ cycles t) × (env (t + more) (Watches FaultNow) ≡ env t (Watches FaultNow))
  same_cycles t less is zero =
      let same : t ≡ t + zero = omega arith in (
        subst (λ k. cycles k ≡ cycles t) same refl,
        subst (λ k. env k (Watches FaultNow) ≡ env t (Watches FaultNow)) same refl,
      )
  same_cycles t less is (suc more) =
      let next_one : suc (t + more) ≡ t + suc more = omega arith in
      let old = same_cycles t less is more in
      let count : cycles (suc (t + more)) ≡ cycles t =
      ap (λ b. cycles (t + more) + bit b)
      (told_stops tells knows_on u m code had memory frame input h inputs last given (t + more) (ap is_set old.1 ∙ is))
      ∙ none (cycles (t + more)) ∙ old.0 in
      let same : env (suc (t + more)) (Watches FaultNow) ≡ env t (Watches FaultNow) =
      told (suc (t + more)) (omega (arith, less))
      ∙ ap (λ k. fault_number (next u m code (cyc_over u m code memory frame input k)).outcome) count ∙ sym (told t less) in (
        subst (λ k. cycles k ≡ cycles t) next_one count,
        subst (λ k. env k (Watches FaultNow) ≡ env t (Watches FaultNow)) next_one same,
      )
    where
      none : (k : ℕ) → k + bit false ≡ k
      none k = omega arith

  -- ---- where it stands still

  held_by : (f h a o g r : Bool) → (not f && (not false && (not h && ((not a || o) && (not g || r))))) ≡ false
      → (h || (f || (a && not o || g && not r))) ≡ true
  held_by f true a o g r is = refl
  held_by true false a o g r is = refl
  held_by false false true o false r is = by o is where
    by : (o : Bool) → (o && true) ≡ false → (not o || false) ≡ true
    by true is = absurd (false≢true (sym is))
    by false is = refl
  held_by false false true true true r is = by r is where
    by : (r : Bool) → r ≡ false → not r ≡ true
    by true is = absurd (false≢true (sym is))
    by false is = refl
  held_by false false true false true r is = refl
  held_by false false false o false r is = absurd (false≢true (sym is))
  held_by false false false o true r is = by r is where
    by : (r : Bool) → r ≡ false → not r ≡ true
    by true is = absurd (false≢true (sym is))
    by false is = refl

  pub still : (t : ℕ) → last < t → is_set (env t Goes) ≡ false → IsHeld u m code (env t) (at t)
  still t less stops = record {
    why = ap (λ b. b || (is_set (env t (Watches FaultNow))
        || (is_set (env t Asks) && not (is_set (env t IsOffered)) || is_set (env t Gives) && not (is_set (env t IsReady)))))
        (sym halted)
        ∙ held_by (is_set (env t (Watches FaultNow))) (is_set (env t HasHalted)) (is_set (env t Asks)) (is_set (env t IsOffered))
        (is_set (env t Gives)) (is_set (env t IsReady))
        (ap (λ b. not (is_set (env t (Watches FaultNow))) && (not b && (not (is_set (env t HasHalted))
        && ((not (is_set (env t Asks)) || is_set (env t IsOffered)) && (not (is_set (env t Gives)) || is_set (env t IsReady))))))
        (sym (on t less))
        ∙ ap (λ b. not (is_set (env t (Watches FaultNow))) && b) (sym (free_goes u m given.rules code had (held t) (inputs t)))
        ∙ sym (goes_is u m given.rules code had (held t) (inputs t)) ∙ stops);
    waits = by (at t).outcome refl;
  } where
    here : Here t (at t)
    here = every t less

    by : (o : Outcome) → (at t).outcome ≡ o → is_halted (at t).outcome ≡ false → is_set (env t (Watches FaultNow)) ≡ false
        → is_set (env t Asks) ≡ true → (at t).rest ≡ [] → next u m code (at t) ≡ record (at t) { outcome = Waiting }
    by Running is runs none asks all =
        ((one_clock u m code (held t) (held (suc t)) (env t) (at t) given.rules given.legal here.run.stands is (sym (set t less) ∙ none)
        (is_settled u m given.rules code had (held t) (inputs t) none)
        (feeds tells knows_on u m code had memory frame input h inputs last given t (at t) less here) (on t less)).1 stops).waits asks all
    by Halted is runs none asks all = absurd (false≢true (sym runs ∙ ap is_halted is))
    by Waiting is runs none asks all = absurd (false≢true (sym here.run.goes_on ∙ ap is_waiting is))
    by (Fault number cycle) is runs none asks all = absurd (false≢true (sym here.sound ∙ ap is_fault is))

    halted : is_set (env t HasHalted) ≡ is_halted (at t).outcome
    halted = ap is_set (free_settled u m given.rules code had (held t) (inputs t)).halted ∙ (every t less).run.stands.halted

module _ (tells : TellsFaults) (knows_on : KnowsOn) where
  pub trap_runs : TrapRuns
  trap_runs u m code first memory frame input h inputs last given t less =
      trapped tells knows_on u m code first memory frame input h inputs last given t less

  pub trap_stays : TrapStays
  trap_stays u m code first memory frame input h inputs last given t less is more =
      let same = same_cycles tells knows_on u m code first memory frame input h inputs last given t less is more in (same.1, same.0)

  pub trap_stands_still : TrapStandsStill
  trap_stands_still u m code first memory frame input h inputs last given t less stops =
      still tells knows_on u m code first memory frame input h inputs last given t less stops
