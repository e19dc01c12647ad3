-- Runs of the circuit are runs of its machine.
use Rattle.std.proofs.Common.{◌≡◌, ℕ, zero, suc, ◌+◌, ◌%◌, ◌<◌, ◌≤◌, ◌^◌, Bool, true, false, not, ◌&&◌, ◌||◌, List, [], ◌∷◌, ◌++◌, length, Some, None, refl, sym, ap, ◌∙◌, subst, arith, append-nil}
use Rattle.std.specs.Prelude.{if◌then◌else◌, nat_lt, replicate, drop, slice_get}
use Rattle.std.proofs.lemmas.Option.{none-some}
use Rattle.std.proofs.lemmas.Bool.{or_left, or_right, false≢true, ltb-true, ltb-false}
use Rattle.std.proofs.lemmas.List.{drop-drop}
use Rattle.std.proofs.lemmas.Nat.{pow_pos}
use Rattle.tta_hardware.specs.Cited.{Units, Machine, IsMachine, IsLegalCode, State, Outcome, Running, Halted, Waiting, Fault, next, bit, is_set, left, Circuit, powered}
use Rattle.tta_code.specs.declared.code.Code.{Code as Program}
use Rattle.tta_hardware.specs.Signals.{Store, same_signal, same_store, Code, Signal as Named, Pc, HasHalted, IsDue, Due, Asks, IsOffered, IsReady, IsReset, Whole, Gives, Goes, Puts, PutWord}
use Rattle.tta_hardware.specs.Wires.{longest}
use Rattle.tta_hardware.specs.Stands.{Hardware, fresh_in, StandsFor, IsSettled, is_halted}
use Rattle.tta_hardware.specs.Theorem.{is_fault, is_waiting, IsFed, HasStepped}
use Rattle.tta_hardware.specs.Hardware.{circuit_of}
use Rattle.tta_hardware.specs.Runs.{held_after, signals_after, cycles_after, taken_after, put_after, AreClocksFrom, HasRunFrom, IsStill, CircuitRuns, StandsStill, start_over, cyc_over, HoldsWords, BeginsAnew}
use Rattle.tta_hardware.proofs.Chained.{set_bit, going}
use Rattle.tta_hardware.proofs.Fetching.{low, fetched_at}
use Rattle.tta_hardware.proofs.Still.{still_stands}
use Rattle.tta_hardware.proofs.Holding.{powered_holds}
use Rattle.tta_hardware.proofs.Stepping.{one_clock}
use Rattle.tta_hardware.proofs.Circuits.{is_settled, has_clocked, has_stored, words_stay, reset_is, goes_not, pc_begins, whole_begins, halted_begins, underway_begins, is_due_begins, data_stays, frame_stays, rom_stays}

-- ---- after clocks that begin anew

-- such clocks leave the memories as they are, and neither carry anything out nor put anything out
record HasWaited (u : Units) (m : Machine) (code : Program) (c : Circuit Named Store) (h : Hardware) (memory frame : List ℕ)
    (inputs : ℕ → Named → ℕ) (t : ℕ) : Type 0 where
  pub holds : HoldsWords m code memory frame (held_after u c h inputs t)
  pub none : cycles_after u c h inputs t ≡ 0
  pub untaken : taken_after u c h inputs t ≡ 0
  pub silent : put_after u c h inputs t ≡ []

-- nothing more
untaken_still : (n : ℕ) → n + 0 ≡ n
untaken_still n = omega arith

module _ (u : Units) (m : Machine) (code : Program) (had memory frame input : List ℕ) (h : Hardware) (inputs : ℕ → Named → ℕ)
    (holds : HoldsWords m code memory frame h) (legal : IsLegalCode m code)
    (n : ℕ) (reset : (t : ℕ) → t ≤ n → is_set (inputs t IsReset) ≡ true) where
  abbrev circuit : Circuit Named Store
  circuit = circuit_of m code had

  abbrev before : ℕ → Hardware
  before t = held_after u circuit h inputs t

  abbrev words : ℕ → Named → ℕ
  words t = signals_after u circuit h inputs t

  resets_at : (t : ℕ) → t ≤ n → is_set (words t IsReset) ≡ true
  resets_at t le = ap is_set (reset_is u m code had (before t) (inputs t)) ∙ reset t le

  stops_at : (t : ℕ) → t ≤ n → is_set (words t Goes) ≡ false
  stops_at t le = goes_not u m code had (before t) (inputs t) (resets_at t le)

  waited : (t : ℕ) → t ≤ n + 1 → HasWaited u m code circuit h memory frame inputs t
  waited zero le = record { holds = holds; none = refl; untaken = refl; silent = refl }
  waited (suc t) le =
      let less : t ≤ n = omega (arith, le) in
      let old = waited t (omega (arith, le)) in
      let same : cycles_after u circuit h inputs t + 0 ≡ cycles_after u circuit h inputs t = omega arith in record {
        holds = record {
          rom = rom_stays u m code had (before t) (inputs t) ∙ old.holds.rom;
          data_has = data_stays u m code had (before t) (inputs t) (stops_at t less) ∙ old.holds.data_has;
          frame_has = frame_stays u m code had (before t) (inputs t) (stops_at t less) ∙ old.holds.frame_has;
          memory_size = holds.memory_size;
          frame_size = holds.frame_size;
        };
        none = ap (λ b. cycles_after u circuit h inputs t + bit b) (stops_at t less) ∙ same ∙ old.none;
        untaken = ap (λ b. taken_after u circuit h inputs t + bit (b && is_set (words t Asks))) (stops_at t less)
            ∙ untaken_still (taken_after u circuit h inputs t) ∙ old.untaken;
        silent = ap (λ b. put_after u circuit h inputs t ++ (if b then words t PutWord ∷ [] else []))
            (ap is_set (is_settled u m code had (before t) (inputs t)).puts ∙ set_bit (is_set (words t Goes) && is_set (words t Gives))
            ∙ ap (λ b. b && is_set (words t Gives)) (stops_at t less))
            ∙ append-nil (put_after u circuit h inputs t) ∙ old.silent;
      }

  abbrev begins : Hardware
  begins = before n

  abbrev first : Hardware
  first = before (suc n)

  -- the circuit stands for the state at the start after the last of them
  first_stands : StandsFor m code first (start_over m memory frame input)
  first_stands = record {
    words = λ p w can has is. absurd (none-some w is);
    ports = λ unit w less is. absurd (none-some w is);
    coming = λ unit delay less some. none unit delay less some (nat_lt delay (longest m unit)) refl;
    pending = record {
      soon = λ p is. absurd (none-some p is);
      underway = λ delay some most. ap is_set (underway_begins u m code had begins (inputs n) resets delay some most);
      ends = λ p is. absurd (none-some p is);
      goal = λ p is. absurd (none-some p is);
    };
    pc = pc_is;
    whole = fetched_at m code (begins.memories Code) (first.words Pc) (first.words Whole) 0 pc_is (waited n (omega arith)).holds.rom
        (whole_begins u m code had begins (inputs n) resets) legal;
    halted = ap is_set (halted_begins u m code had begins (inputs n) resets);
    rom = (waited (suc n) (omega arith)).holds.rom;
    spaces = record {
      memory = (waited (suc n) (omega arith)).holds.data_has;
      frame = (waited (suc n) (omega arith)).holds.frame_has;
      memory_size = holds.memory_size;
      frame_size = holds.frame_size;
    };
  } where
    resets : is_set (words n IsReset) ≡ true
    resets = resets_at n (omega arith)

    pc_is : first.words Pc ≡ 0 % 2 ^ m.control.address
    pc_is = pc_begins u m code had begins (inputs n) resets ∙ sym (low 0 (2 ^ m.control.address) (pow_pos m.control.address))

    none : (unit delay : ℕ) → unit < length m.units → 0 < delay → (b : Bool) → nat_lt delay (longest m unit) ≡ b
        → (if b && is_set (first.words (IsDue unit delay))
        then Some (fresh_in m first.words unit (delay + 1) (first.words (Due unit delay))) else None) ≡ None
    none unit delay less some true is =
        ap (λ n. if is_set n then Some (fresh_in m first.words unit (delay + 1) (first.words (Due unit delay))) else None)
        (is_due_begins u m code had begins (inputs n) resets unit delay less some (ltb-true delay (longest m unit) is))
    none unit delay less some false is = refl

-- ---- a clock that carries nothing out

-- ---- every clock

-- what is left of what was left
left_taken : (input : List ℕ) (k : ℕ) (b : Bool) → left b (drop k input) ≡ drop (k + bit b) input
left_taken input k true = drop-drop 1 k input
left_taken input k false = ap (λ (n : ℕ). drop n input) (sym (untaken_still k))

module _ (u : Units) (m : Machine) (code : Program) (had memory frame input : List ℕ) (h : Hardware) (inputs : ℕ → Named → ℕ)
    (rules : IsMachine m) (legal : IsLegalCode m code) (holds : HoldsWords m code memory frame h)
    (fine : (n : ℕ) → is_fault (cyc_over u m code memory frame input n).outcome ≡ false)
    (n : ℕ) (clocks : AreClocksFrom u (circuit_of m code had) h input inputs n) where
  abbrev it : Circuit Named Store
  it = circuit_of m code had

  abbrev state : ℕ → State
  state t = cyc_over u m code memory frame input (cycles_after u it h inputs t)

  abbrev held : ℕ → Hardware
  held t = held_after u it h inputs t

  abbrev env : ℕ → Named → ℕ
  env t = signals_after u it h inputs t

  its_settled : (t : ℕ) → IsSettled u m (held t) (env t)
  its_settled t = is_settled u m code had (held t) (inputs t)

  is_on : (t : ℕ) → n < t → is_set (env t IsReset) ≡ false
  is_on t less = ap is_set (reset_is u m code had (held t) (inputs t)) ∙ clocks.on t less

  -- where a clock carries nothing out, it puts out nothing
  quiet : (t : ℕ) → is_set (env t Goes) ≡ false → is_set (env t Puts) ≡ false
  quiet t stops =
      ap is_set (its_settled t).puts ∙ set_bit (is_set (env t Goes) && is_set (env t Gives)) ∙ ap (λ b. b && is_set (env t Gives)) stops

  -- and all stays
  stays : (t : ℕ) → is_set (env t IsReset) ≡ false → HasRunFrom u m code it h input inputs t (state t) → is_set (env t Goes) ≡ false
      → HasRunFrom u m code it h input inputs (suc t) (state (suc t))
  stays t going_on run stops =
      let same : cycles_after u it h inputs t + bit (is_set (env t Goes)) ≡ cycles_after u it h inputs t =
      ap (λ b. cycles_after u it h inputs t + bit b) stops ∙ omega arith in
      subst (λ k. HasRunFrom u m code it h input inputs (suc t) (cyc_over u m code memory frame input k)) (sym same) (record {
        stands = still_stands m code (held t) (held (suc t)) (state t) (words_stay u m code had (held t) (inputs t) stops going_on)
            (data_stays u m code had (held t) (inputs t) stops)
            (frame_stays u m code had (held t) (inputs t) stops) (rom_stays u m code had (held t) (inputs t)) run.stands;
        output = ap (λ b. put_after u it h inputs t ++ (if b then env t PutWord ∷ [] else [])) (quiet t stops)
            ∙ append-nil (put_after u it h inputs t) ∙ run.output;
        rest = run.rest
            ∙ sym (ap (λ b. drop (taken_after u it h inputs t + bit (b && is_set (env t Asks))) input) stops
            ∙ ap (λ (k : ℕ). drop k input) (untaken_still (taken_after u it h inputs t)));
        goes_on = run.goes_on;
      })

  -- where it does, it makes a cycle
  steps : (t : ℕ) → HasRunFrom u m code it h input inputs t (state t) → is_set (env t Goes) ≡ true
      → HasStepped u m code (held (suc t)) (env t) (state t) (next u m code (state t))
      → HasRunFrom u m code it h input inputs (suc t) (state (suc t))
  steps t run goes stepped =
      let more : cycles_after u it h inputs t + bit (is_set (env t Goes)) ≡ suc (cycles_after u it h inputs t) =
      ap (λ b. cycles_after u it h inputs t + bit b) goes ∙ omega arith in
      subst (λ k. HasRunFrom u m code it h input inputs (suc t) (cyc_over u m code memory frame input k)) (sym more) (record {
        stands = stepped.stands;
        output = ap (λ ws. ws ++ (if is_set (env t Puts) then env t PutWord ∷ [] else [])) run.output ∙ sym stepped.output;
        rest = stepped.rest ∙ ap (left (is_set (env t Asks))) run.rest
            ∙ left_taken input (taken_after u it h inputs t) (is_set (env t Asks))
            ∙ sym (ap (λ b. drop (taken_after u it h inputs t + bit (b && is_set (env t Asks))) input) goes);
        goes_on = stepped.goes_on;
      })

  -- a word that is offered is the next of the rest
  feeds : (t : ℕ) → n < t → HasRunFrom u m code it h input inputs t (state t) → IsFed (env t) (state t).rest
  feeds t less run offered = ap (λ (l : List ℕ). slice_get l 0) run.rest ∙ clocks.fed t less offered

  -- one more clock
  one_more : (t : ℕ) → is_set (env t IsReset) ≡ false → IsFed (env t) (state t).rest
      → HasRunFrom u m code it h input inputs t (state t)
      → HasRunFrom u m code it h input inputs (suc t) (state (suc t))
  one_more t going_on fed run = by (state t).outcome refl where
    halts : is_halted (state t).outcome ≡ true → is_set (env t Goes) ≡ false
    halts halted =
        ap is_set (its_settled t).goes
        ∙ going (is_set (env t IsReset)) (is_set (env t HasHalted)) (is_set (env t Asks)) (is_set (env t IsOffered)) (is_set (env t Gives))
        (is_set (env t IsReady))
        ∙ ap (λ b. not b
        && (not (is_set (env t HasHalted))
        && ((not (is_set (env t Asks)) || is_set (env t IsOffered)) && (not (is_set (env t Gives)) || is_set (env t IsReady)))))
        going_on
        ∙ ap (λ b. not b
        && ((not (is_set (env t Asks)) || is_set (env t IsOffered)) && (not (is_set (env t Gives)) || is_set (env t IsReady))))
        (ap is_set (its_settled t).halted ∙ run.stands.halted ∙ halted)

    runs : (state t).outcome ≡ Running → (b : Bool) → is_set (env t Goes) ≡ b
        → HasRunFrom u m code it h input inputs (suc t) (state (suc t))
    runs running true goes =
        steps t run goes
        ((one_clock u m code (held t) (held (suc t)) (env t) (state t) rules legal run.stands running
        (fine (suc (cycles_after u it h inputs t))) (its_settled t) fed going_on).0
        goes (has_clocked u m code had (held t) (inputs t) goes) (has_stored u m code had (held t) (inputs t)))
    runs running false stops = stays t going_on run stops

    by : (o : Outcome) → (state t).outcome ≡ o → HasRunFrom u m code it h input inputs (suc t) (state (suc t))
    by Running is = runs is (is_set (env t Goes)) refl
    by Halted is = stays t going_on run (halts (ap is_halted is))
    by Waiting is = absurd (false≢true (sym run.goes_on ∙ ap is_waiting is))
    by (Fault number at) is = absurd (false≢true (sym (fine (cycles_after u it h inputs t)) ∙ ap is_fault is))

  -- the first clock after those that begin anew
  first_run : HasRunFrom u m code it h input inputs (suc n) (state (suc n))
  first_run =
      let all = waited u m code had memory frame input h inputs holds legal n clocks.reset (suc n) (omega arith) in
      subst (λ k. HasRunFrom u m code it h input inputs (suc n) (cyc_over u m code memory frame input k)) (sym all.none)
      (record {
        stands = first_stands u m code had memory frame input h inputs holds legal n clocks.reset;
        output = all.silent;
        rest = sym (ap (λ (k : ℕ). drop k input) all.untaken);
        goes_on = refl;
      })

  -- and so all
  every : (t : ℕ) → n < t → HasRunFrom u m code it h input inputs t (state t)
  every zero less = absurd (omega (arith, less))
  every (suc t) less = by (nat_lt n t) refl (every t) where
    by : (b : Bool) → nat_lt n t ≡ b → (n < t → HasRunFrom u m code it h input inputs t (state t))
        → HasRunFrom u m code it h input inputs (suc t) (state (suc t))
    by true is run = let lt = ltb-true n t is in one_more t (is_on t lt) (feeds t lt (run lt)) (run lt)
    by false is run =
        let le : t ≤ n = ltb-false n t is in
        let same : n ≡ t = omega (arith, le, less) in
        subst (λ k. HasRunFrom u m code it h input inputs (suc k) (state (suc k))) same first_run

  -- a clock that carries nothing out
  still : (t : ℕ) → n < t → is_set (env t Goes) ≡ false → IsStill u m code (env t) (state t)
  still t less stops = by (state t).outcome refl where
    run : HasRunFrom u m code it h input inputs t (state t)
    run = every t less

    by : (o : Outcome) → (state t).outcome ≡ o → IsStill u m code (env t) (state t)
    by Running is =
        let stalled =
        (one_clock u m code (held t) (held (suc t)) (env t) (state t) rules legal run.stands is
        (fine (suc (cycles_after u it h inputs t))) (its_settled t) (feeds t less run) (is_on t less)).1 stops in
        record {
          why = or_right (is_halted (state t).outcome) (is_set (env t Asks) && not (is_set (env t IsOffered))
              || is_set (env t Gives) && not (is_set (env t IsReady))) stalled.why;
          waits = λ runs. stalled.waits;
        }
    by Halted is = record {
      why = or_left (is_halted (state t).outcome) (is_set (env t Asks) && not (is_set (env t IsOffered))
          || is_set (env t Gives) && not (is_set (env t IsReady))) (ap is_halted is);
      waits = λ runs. absurd (false≢true (sym runs ∙ ap is_halted is));
    }
    by Waiting is = absurd (false≢true (sym run.goes_on ∙ ap is_waiting is))
    by (Fault number at) is = absurd (false≢true (sym (fine (cycles_after u it h inputs t)) ∙ ap is_fault is))

pub begins_anew : BeginsAnew
begins_anew u m code first memory frame input h inputs rules legal holds fine last clocks t less =
    every u m code first memory frame input h inputs rules legal holds fine last clocks t less

pub circuit_runs : CircuitRuns
circuit_runs u m code memory input powers inputs rules legal sized fine last clocks t less =
    every u m code memory memory (replicate m.frame_words 0) input (powered same_signal same_store (circuit_of m code memory) powers) inputs
    rules legal (powered_holds m code memory powers sized) fine last clocks t less

pub stands_still : StandsStill
stands_still u m code memory input powers inputs rules legal sized fine last clocks t less stops =
    still u m code memory memory (replicate m.frame_words 0) input (powered same_signal same_store (circuit_of m code memory) powers) inputs
    rules legal (powered_holds m code memory powers sized) fine last clocks t less stops
