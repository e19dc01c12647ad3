-- Clocks that begin anew, of a circuit that tells the first fault.
use Rattle.std.proofs.Common.{◌≡◌, ℕ, zero, suc, ◌+◌, ◌%◌, ◌<◌, ◌≤◌, ◌^◌, Bool, true, false, not, ◌&&◌, ◌||◌, List, [], ◌∷◌, ◌++◌, length, Some, None, refl, sym, ap, ◌∙◌, arith, append-nil}
use Rattle.std.specs.Prelude.{if◌then◌else◌, nat_lt, nat_le}
use Rattle.std.proofs.lemmas.Option.{none-some}
use Rattle.std.proofs.lemmas.Bool.{ltb-true, leb-true}
use Rattle.std.proofs.lemmas.Nat.{pow_pos}
use Rattle.tta_circuit.specs.Meaning.{bit}
use Rattle.tta_trap.specs.Cited.{Units, Machine, IsMachine, IsLegalCode, Place, KeptPort, Circuit, is_set, Store, HasHalted, IsReset, IsOffered, IsReady, Asks, Gives, Goes, Puts, PutWord, HasWord, IsPast, FaultNow, Watches, Pc, has_place, longest, Hardware, StandsFor, held_after, signals_after, cycles_after, HoldsWords, start_over}
use Rattle.tta_code.specs.declared.code.Code.{Code as Program}
use Rattle.tta_hardware.specs.Signals.{Signal as Named, IsDue, Due, Whole, Code}
use Rattle.tta_hardware.specs.Stands.{fresh_in}
use Rattle.tta_hardware.specs.Runs.{taken_after, put_after}
use Rattle.tta_hardware.proofs.Chained.{set_bit, going}
use Rattle.tta_hardware.proofs.Fetching.{low, fetched_at}
use Rattle.tta_hardware.proofs.There.{some_at}
use Rattle.tta_trap.specs.Trap.{trap_circuit}
use Rattle.tta_trap.specs.Tells.{Knows}
use Rattle.tta_trap.proofs.Settled.{env, free, goes_is, at_puts, reset_is}
use Rattle.tta_trap.proofs.Kept.{word_in, past_in}
use Rattle.tta_trap.proofs.Clocked.{has_stored, data_stays, frame_stays, pc_begins, whole_begins, halted_begins, underway_begins, is_due_begins, watch_begins}

-- such clocks leave the memories as they are, and neither carry anything out nor put anything out
pub record HasWaited (u : Units) (m : Machine) (code : Program) (c : Circuit Named Store) (h : Hardware) (memory frame : List ℕ)
    (inputs : ℕ → Named → ℕ) (t : ℕ) : Type 0 where
  pub holds : HoldsWords m code memory frame (held_after u c h inputs t)
  pub none : cycles_after u c h inputs t ≡ 0
  pub untaken : taken_after u c h inputs t ≡ 0
  pub silent : put_after u c h inputs t ≡ []

-- nothing more
more_none : (n : ℕ) → n + 0 ≡ n
more_none n = omega arith

-- ---- one clock

module _ (u : Units) (m : Machine) (rules : IsMachine m) (code : Program) (had : List ℕ) (h : Hardware) (inputs : Named → ℕ) where
  abbrev words : Named → ℕ
  words = free u m rules code had h inputs

  -- whether a circuit without a watch would carry an instruction out
  pub free_goes : is_set (words Goes) ≡ (not (is_set (words IsReset)) && (not (is_set (words HasHalted))
      && ((not (is_set (words Asks)) || is_set (words IsOffered)) && (not (is_set (words Gives)) || is_set (words IsReady)))))
  free_goes =
      going (is_set (words IsReset)) (is_set (words HasHalted)) (is_set (words Asks)) (is_set (words IsOffered)) (is_set (words Gives))
      (is_set (words IsReady))

  -- nothing is carried out where the circuit is to begin anew
  pub resets_stop : is_set (words IsReset) ≡ true → is_set (env u m rules code had h inputs Goes) ≡ false
  resets_stop reset =
      goes_is u m rules code had h inputs
      ∙ ap (λ b. not (is_set (words (Watches FaultNow))) && b) (free_goes ∙ ap (λ b. not b && (not (is_set (words HasHalted))
      && ((not (is_set (words Asks)) || is_set (words IsOffered)) && (not (is_set (words Gives)) || is_set (words IsReady))))) reset)
      ∙ and_false (not (is_set (words (Watches FaultNow))))
    where
      and_false : (b : Bool) → (b && false) ≡ false
      and_false true = refl
      and_false false = refl

  -- where nothing is carried out, nothing is put out
  pub puts_stop : is_set (env u m rules code had h inputs Goes) ≡ false → is_set (env u m rules code had h inputs Puts) ≡ false
  puts_stop stops =
      ap is_set (at_puts u m rules code had h inputs)
      ∙ set_bit (is_set (env u m rules code had h inputs Goes) && is_set (words Gives)) ∙ ap (λ b. b && is_set (words Gives)) stops

-- ---- such clocks

module _ (u : Units) (m : Machine) (code : Program) (had memory frame input : List ℕ) (h : Hardware) (inputs : ℕ → Named → ℕ)
    (rules : IsMachine m) (holds : HoldsWords m code memory frame h) (legal : IsLegalCode m code)
    (n : ℕ) (reset : (t : ℕ) → t ≤ n → is_set (inputs t IsReset) ≡ true) where
  abbrev circuit : Circuit Named Store
  circuit = trap_circuit m code had

  abbrev before : ℕ → Hardware
  before t = held_after u circuit h inputs t

  abbrev signals : ℕ → Named → ℕ
  signals t = signals_after u circuit h inputs t

  resets_at : (t : ℕ) → t ≤ n → is_set (signals t IsReset) ≡ true
  resets_at t le = ap is_set (reset_is u m rules code had (before t) (inputs t)) ∙ reset t le

  stops_at : (t : ℕ) → t ≤ n → is_set (signals t Goes) ≡ false
  stops_at t le = resets_stop u m rules code had (before t) (inputs t) (resets_at t le)

  pub waited : (t : ℕ) → t ≤ n + 1 → HasWaited u m code circuit h memory frame inputs t
  waited zero le = record { holds = holds; none = refl; untaken = refl; silent = refl }
  waited (suc t) le =
      let less : t ≤ n = omega (arith, le) in
      let old = waited t (omega (arith, le)) in
      let stored = has_stored u m rules code had (before t) (inputs t) in record {
        holds = record {
          rom = stored.rom ∙ old.holds.rom;
          data_has = data_stays u m rules code had (before t) (inputs t) (stops_at t less) ∙ old.holds.data_has;
          frame_has = frame_stays u m rules code had (before t) (inputs t) (stops_at t less) ∙ old.holds.frame_has;
          memory_size = holds.memory_size;
          frame_size = holds.frame_size;
        };
        none = ap (λ b. cycles_after u circuit h inputs t + bit b) (stops_at t less)
            ∙ more_none (cycles_after u circuit h inputs t) ∙ old.none;
        untaken = ap (λ b. taken_after u circuit h inputs t + bit (b && is_set (signals t Asks))) (stops_at t less)
            ∙ more_none (taken_after u circuit h inputs t) ∙ old.untaken;
        silent = ap (λ b. put_after u circuit h inputs t ++ (if b then signals t PutWord ∷ [] else []))
            (puts_stop u m rules code had (before t) (inputs t) (stops_at t less))
            ∙ append-nil (put_after u circuit h inputs t) ∙ old.silent;
      }

  abbrev begins : Hardware
  begins = before n

  abbrev pub first : Hardware
  first = before (suc n)

  resets : is_set (signals n IsReset) ≡ true
  resets = resets_at n (omega arith)

  -- the circuit stands for the state at the start after the last of them
  pub first_stands : StandsFor m code first (start_over m memory frame input)
  first_stands = record {
    words = λ p w can has is. absurd (none-some w is);
    ports = λ unit w less is. absurd (none-some w is);
    coming = λ unit delay less some. none unit delay less some (nat_lt delay (longest m unit)) refl;
    pending = record {
      soon = λ p is. absurd (none-some p is);
      underway = λ delay some most. ap is_set (underway_begins u m rules code had begins (inputs n) resets delay some most);
      ends = λ p is. absurd (none-some p is);
      goal = λ p is. absurd (none-some p is);
    };
    pc = pc_is;
    whole = fetched_at m code (begins.memories Code) (first.words Pc) (first.words Whole) 0 pc_is (waited n (omega arith)).holds.rom
        (whole_begins u m rules code had begins (inputs n) resets) legal;
    halted = ap is_set (halted_begins u m rules code had begins (inputs n) resets);
    rom = (waited (suc n) (omega arith)).holds.rom;
    spaces = record {
      memory = (waited (suc n) (omega arith)).holds.data_has;
      frame = (waited (suc n) (omega arith)).holds.frame_has;
      memory_size = holds.memory_size;
      frame_size = holds.frame_size;
    };
  } where
    pc_is : first.words Pc ≡ 0 % 2 ^ m.control.address
    pc_is = pc_begins u m rules code had begins (inputs n) resets ∙ sym (low 0 (2 ^ m.control.address) (pow_pos m.control.address))

    none : (unit delay : ℕ) → unit < length m.units → 0 < delay → (b : Bool) → nat_lt delay (longest m unit) ≡ b
        → (if b && is_set (first.words (IsDue unit delay))
        then Some (fresh_in m first.words unit (delay + 1) (first.words (Due unit delay))) else None) ≡ None
    none unit delay less some true is =
        ap (λ n. if is_set n then Some (fresh_in m first.words unit (delay + 1) (first.words (Due unit delay))) else None)
        (is_due_begins u m rules code had begins (inputs n) resets unit delay less some (ltb-true delay (longest m unit) is))
    none unit delay less some false is = refl

  -- and knows that nothing was written yet
  pub first_knows : Knows m first.words (start_over m memory frame input)
  first_knows = record {
    places = λ p can has. none p has;
    ports = λ unit less. none (KeptPort unit) (some_at m rules m.units unit less);
    past = ap is_set (watch_begins u m rules code had begins (inputs n) resets IsPast (past_in m)) ∙ near;
  } where
    none : (p : Place) → has_place m p ≡ true → is_set (first.words (Watches (HasWord p))) ≡ false
    none p has = ap is_set (watch_begins u m rules code had begins (inputs n) resets (HasWord p) (word_in m p has))

    near : false ≡ nat_le (2 ^ m.control.address) 0
    near = by (nat_le (2 ^ m.control.address) 0) refl where
      by : (b : Bool) → nat_le (2 ^ m.control.address) 0 ≡ b → false ≡ b
      by true is = let le = leb-true (2 ^ m.control.address) 0 is in absurd (omega (arith, le, pow_pos m.control.address))
      by false is = refl
