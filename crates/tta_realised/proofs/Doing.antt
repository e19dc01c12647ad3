-- The circuit of code that agrees with a program does what the program does.
use Rattle.std.proofs.Common.{◌≡◌, ℕ, zero, suc, ◌+◌, ◌*◌, ◌<◌, ◌≤◌, Bool, true, false, not, ◌&&◌, ◌||◌, List, [], ◌∷◌, length, slice_get, refl, sym, ap, ◌∙◌, subst, arith}
use Rattle.std.specs.Prelude.{if◌then◌else◌, nat_lt, nat_le, drop}
use Rattle.std.proofs.lemmas.Bool.{false≢true, ltb-true, ltb-false, leb-true, leb-false}
use Rattle.std.proofs.lemmas.Option.{none-some}
use Rattle.tta_realised.specs.Cited.{IsPrefixOf, over, Units, Machine, IsMachine, Program, step_count, Code, Whole, data_in, IsLegalWhole, State, Outcome, Running, Halted, Waiting, Fault, next, start, IsGiven, WaitAlike, AgreesAt, program_at, code_at, Circuit, bit, is_set, Store, HasHalted, IsOffered, Offer, IsReady, IsReset, Asks, Gives, Goes, Puts, PutWord, code_words, is_halted, is_fault, held_at, signals_at, cycles_at, taken_at, put_at, AreClocks, IsStill, ShowsRun}
use Rattle.tta_list.proofs.Prefixes.{prefix_chain}
use Rattle.tta_list.proofs.Sets.{over-length}
use Rattle.tta_list.proofs.Iterated.{iterate-later}
use Rattle.tta_program.specs.Sequential as program
use Rattle.tta_hardware.specs.Signals.{Signal as Named}
use Rattle.tta_hardware.specs.Theorem.{is_waiting}
use Rattle.tta_hardware.proofs.Circuits.{reset_is, goes_not}
use Rattle.tta_hardware.proofs.Running.{stands_still}
use Rattle.tta_hardware.proofs.Pins.{goes_by, goes_is}
use Rattle.tta_hardware.proofs.Imaging.{shows_run}
use Rattle.tta_hardware.proofs.Imaged.{image_kept}
use Rattle.tta_realised.specs.Realised.{circuit_on, HasHaltedBy, HaltsAs, AsksInVain, WaitsAs, is_untaken, IsHeldUp, DoesAs}
use Rattle.tta_realised.specs.Laws.{CircuitDoes, ImageDoes, BuiltDoes}

-- ---- outcomes

halted_is : (o : Outcome) → is_halted o ≡ true → o ≡ Halted
halted_is Running h = absurd (false≢true h)
halted_is Halted h = refl
halted_is Waiting h = absurd (false≢true h)
halted_is (Fault number at) h = absurd (false≢true h)

-- a state that has halted is its own next one
rests : (u : Units) (m : Machine) (code : Code) (s : State) → s.outcome ≡ Halted → next u m code s ≡ s
unfolding next
rests u m code s is = rw is refl

-- so is one that waits
stays : (u : Units) (m : Machine) (code : Code) (s : State) → s.outcome ≡ Waiting → next u m code s ≡ s
unfolding next
stays u m code s is = rw is refl

-- a circuit that runs, and is held up by no word of its own, asks
asked : (halted asks offered untaken : Bool) → halted ≡ false → untaken ≡ false → (halted || (asks && not offered || untaken)) ≡ true → asks ≡ true
asked true asks offered untaken runs taken held = absurd (false≢true (sym runs))
asked false true offered untaken runs taken held = refl
asked false false offered untaken runs taken held = absurd (false≢true (sym taken ∙ held))

-- ---- the circuit

module _ (u : Units) (m : Machine) (p : Program) (rate : ℕ) (whole : Whole) (memory input : List ℕ) (powers : Named → ℕ)
    (inputs : ℕ → Named → ℕ) (rules : IsMachine m) (legal : IsLegalWhole m whole) (agrees : AgreesAt u m p rate whole)
    (given : IsGiven m memory input) (last : ℕ)
    (clocks : AreClocks u (circuit_on m whole (code_words m whole.code) memory) input powers inputs last) where
  abbrev c : Circuit Named Store
  c = circuit_on m whole (code_words m whole.code) memory

  abbrev made : ℕ → ℕ
  made t = cycles_at u c powers inputs t

  abbrev put : ℕ → List ℕ
  put t = put_at u c powers inputs t

  abbrev code : ℕ → State
  code k = code_at u m whole memory input k

  fine : (k : ℕ) → is_fault (code k).outcome ≡ false
  fine k = by (code k).outcome refl where
    by : (o : Outcome) → (code k).outcome ≡ o → is_fault o ≡ false
    by Running is = refl
    by Halted is = refl
    by Waiting is = refl
    by (Fault number at) is = absurd (agrees.no_fault memory input k number at given is)

  sized : length (over (data_in whole) memory) ≡ m.data_words
  sized = over-length (data_in whole) memory ∙ given.size

  shows : (t : ℕ) → last < t → ShowsRun u m (code_words m whole.code) (over (data_in whole) memory) input powers inputs t (code (made t))
  shows t less =
      shows_run u m whole.code (over (data_in whole) memory) input powers inputs rules legal.code sized fine last clocks t less

  -- the clocks that begin anew make no cycle
  idle : (t : ℕ) → t ≤ last → is_set (signals_at u c powers inputs t Goes) ≡ false
  idle t le =
      goes_not u m whole.code (over (data_in whole) memory) (held_at u c powers inputs t) (inputs t)
      (ap is_set (reset_is u m whole.code (over (data_in whole) memory) (held_at u c powers inputs t) (inputs t)) ∙ clocks.reset t le)

  none_by : (t : ℕ) → t ≤ last + 1 → made t ≡ 0
  none_by zero le = refl
  none_by (suc t) le =
      let same : made t + 0 ≡ made t = omega arith in
      ap (λ b. made t + bit b) (idle t (omega (arith, le))) ∙ same ∙ none_by t (omega (arith, le))

  none : made (suc last) ≡ 0
  none = none_by (suc last) (omega arith)

  -- where so many cycles are made, the output of the program's steps begins what was put out
  at_once : (t n : ℕ) → last < t → length whole.code.words * (n + 1) ≡ made t → IsPrefixOf (program_at u p memory input n).output (put t)
  at_once t n less is =
      subst (λ (l : List ℕ). IsPrefixOf (program_at u p memory input n).output l) (sym (shows t less).output)
      (subst (λ (k : ℕ). IsPrefixOf (program_at u p memory input n).output (code k).output) is (agrees.output memory input n given))

  -- what was put out begins what is put out later
  grows : (t : ℕ) → IsPrefixOf (put t) (put (suc t))
  grows t = (if is_set (signals_at u c powers inputs t Puts) then signals_at u c powers inputs t PutWord ∷ [] else [], refl)

  -- a clock makes a cycle or none
  one_cycle : (b : Bool) → bit b ≤ 1
  one_cycle true = omega arith
  one_cycle false = omega arith

  reaches : (t n : ℕ) → last < t → length whole.code.words * (n + 1) ≤ made t → IsPrefixOf (program_at u p memory input n).output (put t)
  reaches zero n less enough = absurd (omega (arith, less))
  reaches (suc t) n less enough = by (nat_lt last t) refl (nat_le (length whole.code.words * (n + 1)) (made t)) refl (reaches t n) where
    size : ℕ
    size = length whole.code.words * (n + 1)

    by : (b : Bool) → nat_lt last t ≡ b → (d : Bool) → nat_le size (made t) ≡ d
        → (last < t → size ≤ made t → IsPrefixOf (program_at u p memory input n).output (put t))
        → IsPrefixOf (program_at u p memory input n).output (put (suc t))
    by false is d near before =
        let same : last ≡ t = omega (arith, less, ltb-false last t is) in
        let zero_cycles : made (suc t) ≡ 0 = ap (λ (k : ℕ). made (suc k)) (sym same) ∙ none in
        at_once (suc t) n less (omega (arith, enough, zero_cycles))
    by true is true near before =
        prefix_chain (program_at u p memory input n).output (put t) (put (suc t))
        (before (ltb-true last t is) (leb-true size (made t) near))
        (grows t)
    by true is false near before =
        let far = leb-false size (made t) near in
        let one = one_cycle (is_set (signals_at u c powers inputs t Goes)) in
        at_once (suc t) n less (omega (arith, enough, far, one))

  halted_as : (t : ℕ) → last < t → HasHaltedBy u c input powers inputs t
      → HaltsAs u c input powers inputs t (program_at u p memory input (rate * (made t + 1)))
  halted_as t less has =
      let run = shows t less in
      let alike = agrees.halts_only memory input (made t) given (halted_is (code (made t)).outcome (sym run.halted ∙ has)) in
      record {
        program = alike.program;
        output = run.output ∙ alike.output;
        memory = run.data_space ∙ alike.memory;
        rest = sym run.rest ∙ alike.rest;
      }

  halts_too : (t n : ℕ) → last < t → (program_at u p memory input n).outcome ≡ program.Halted → length whole.code.words * (n + 1) ≤ made t
      → HasHaltedBy u c input powers inputs t
  halts_too t n less is enough =
      let size : ℕ = length whole.code.words * (n + 1) in
      let alike = agrees.halts memory input n given is in
      let still = iterate-later (next u m whole.code) size (made t) (start m (over (data_in whole) memory) input) enough
      (rests u m whole.code (code size) alike.code) in
      (shows t less).halted ∙ ap (λ (s : State). is_halted s.outcome) still ∙ ap is_halted alike.code

  -- ---- asking in vain

  offered_not : (t : ℕ) → last < t → AsksInVain u c input powers inputs t → is_set (signals_at u c powers inputs t IsOffered) ≡ false
  offered_not t less vain = by (is_set (signals_at u c powers inputs t IsOffered)) refl where
    by : (b : Bool) → is_set (signals_at u c powers inputs t IsOffered) ≡ b → is_set (signals_at u c powers inputs t IsOffered) ≡ false
    by true is =
        absurd (none-some (signals_at u c powers inputs t Offer)
        (sym (ap (λ (l : List ℕ). slice_get l 0) vain.none) ∙ clocks.fed t less is))
    by false is = is

  stops : (t : ℕ) → last < t → AsksInVain u c input powers inputs t → is_set (signals_at u c powers inputs t Goes) ≡ false
  stops t less vain =
      goes_is u m whole.code (over (data_in whole) memory) input powers inputs rules legal.code sized fine last clocks t
      ∙ ap (λ b. goes_by (is_set (signals_at u c powers inputs t IsReset)) (is_set (signals_at u c powers inputs t HasHalted)) b
      (is_set (signals_at u c powers inputs t IsOffered)) (is_set (signals_at u c powers inputs t Gives))
      (is_set (signals_at u c powers inputs t IsReady))) vain.asks
      ∙ ap (λ b. goes_by (is_set (signals_at u c powers inputs t IsReset)) (is_set (signals_at u c powers inputs t HasHalted)) true b
      (is_set (signals_at u c powers inputs t Gives)) (is_set (signals_at u c powers inputs t IsReady))) (offered_not t less vain)
      ∙ never (is_set (signals_at u c powers inputs t IsReset)) (is_set (signals_at u c powers inputs t HasHalted)) where
        never : (x h : Bool) → (not x && (not h && false)) ≡ false
        never true h = refl
        never false true = refl
        never false false = refl

  waits_as : (t : ℕ) → last < t → AsksInVain u c input powers inputs t
      → WaitsAs u c input powers inputs t (program_at u p memory input (rate * (made t + 2)))
  waits_as t less vain =
      subst (λ (k : ℕ). WaitsAs u c input powers inputs t (program_at u p memory input (rate * k))) (omega arith) (record {
        program = alike.program;
        output = run.output ∙ sym (ap (λ (s : State). s.output) waiting) ∙ alike.output;
        rest = sym alike.rest ∙ ap (λ (s : State). s.rest) waiting ∙ run.rest ∙ vain.none;
      }) where
        run : ShowsRun u m (code_words m whole.code) (over (data_in whole) memory) input powers inputs t (code (made t))
        run = shows t less

        still : IsStill u m whole.code (signals_at u c powers inputs t) (code (made t))
        still =
            stands_still u m whole.code (over (data_in whole) memory) input powers inputs rules legal.code sized fine last clocks t less
            (stops t less vain)

        waiting : code (suc (made t)) ≡ record (code (made t)) { outcome = Waiting }
        waiting = still.waits (sym run.halted ∙ vain.runs) vain.asks (run.rest ∙ vain.none)

        alike : WaitAlike (program_at u p memory input (rate * (suc (made t) + 1))) (code (suc (made t)))
        alike = agrees.waits_only memory input (suc (made t)) given (ap (λ (s : State). s.outcome) waiting)

  -- ---- standing still

  held_up : (t : ℕ) → last < t → is_set (signals_at u c powers inputs t Goes) ≡ false → IsHeldUp u c input powers inputs t
  held_up t less none =
      ap (λ (b : Bool). b || (is_set (signals_at u c powers inputs t Asks) && not (is_set (signals_at u c powers inputs t IsOffered))
      || is_untaken u c input powers inputs t)) (shows t less).halted
      ∙ (stands_still u m whole.code (over (data_in whole) memory) input powers inputs rules legal.code sized fine last clocks t less none).why

  stops_before : (t n : ℕ) → last < t → (program_at u p memory input n).outcome ≡ program.Waiting → made t < length whole.code.words * (n + 1)
  stops_before t n less waiting = by (nat_lt (made t) size) refl where
    size : ℕ
    size = length whole.code.words * (n + 1)

    by : (b : Bool) → nat_lt (made t) size ≡ b → made t < size
    by true is = ltb-true (made t) size is
    by false is =
        let alike = agrees.waits memory input n given waiting in
        let same = iterate-later (next u m whole.code) size (made t) (start m (over (data_in whole) memory) input) (ltb-false (made t) size is)
        (stays u m whole.code (code size) alike.code) in
        absurd (false≢true (sym (shows t less).goes_on ∙ ap (λ (s : State). is_waiting s.outcome) same ∙ ap is_waiting alike.code))

  asks_then : (t n : ℕ) → last < t → (program_at u p memory input n).outcome ≡ program.Waiting
      → is_set (signals_at u c powers inputs t Goes) ≡ false → is_untaken u c input powers inputs t ≡ false
      → drop (taken_at u c powers inputs t) input ≡ [] → AsksInVain u c input powers inputs t
  asks_then t n less waiting none taken all = record {
    runs = runs;
    asks = asked _ _ _ _ runs taken (held_up t less none);
    none = all;
  } where
    size : ℕ
    size = length whole.code.words * (n + 1)

    by : (b : Bool) → is_set ((held_at u c powers inputs t).words HasHalted) ≡ b → is_set ((held_at u c powers inputs t).words HasHalted) ≡ false
    by true is =
        let before = stops_before t n less waiting in
        let halted = halted_is (code (made t)).outcome (sym (shows t less).halted ∙ is) in
        let same = iterate-later (next u m whole.code) (made t) size (start m (over (data_in whole) memory) input) (omega (arith, before))
        (rests u m whole.code (code (made t)) halted) in
        let alike = agrees.waits memory input n given waiting in
        absurd (false≢true (sym (ap is_halted alike.code) ∙ ap (λ (s : State). is_halted s.outcome) same ∙ ap is_halted halted))
    by false is = is

    runs : is_set ((held_at u c powers inputs t).words HasHalted) ≡ false
    runs = by (is_set ((held_at u c powers inputs t).words HasHalted)) refl

  pub does : (t : ℕ) → last < t → DoesAs u c input powers inputs p memory rate (length whole.code.words) t
  does t less = record {
    goes = held_up t less;
    output = subst (λ (l : List ℕ). IsPrefixOf l (program_at u p memory input (rate * (made t + 1))).output) (sym (shows t less).output)
        (agrees.output_only memory input (made t) given);
    reaches = λ n enough. reaches t n less enough;
    halted = halted_as t less;
    halts = λ n is enough. halts_too t n less is enough;
    waits = waits_as t less;
    stops = λ n is. stops_before t n less is;
    asks = λ n is none taken all. asks_then t n less is none taken all;
  }

pub circuit_does : CircuitDoes
circuit_does u m p rate whole memory input powers inputs rules legal agrees given last clocks t less =
    does u m p rate whole memory input powers inputs rules legal agrees given last clocks t less

pub image_does : ImageDoes
image_does u m p whole digest bytes memory input powers inputs rules legal agrees many image given =
    subst (λ (ws : List ℕ). (last : ℕ) → AreClocks u (circuit_on m whole ws memory) input powers inputs last → (t : ℕ) → last < t
    → DoesAs u (circuit_on m whole ws memory) input powers inputs p memory (step_count p) (length whole.code.words) t)
    (sym (image_kept m digest whole bytes rules many image))
    (circuit_does u m p (step_count p) whole memory input powers inputs rules legal agrees given)

pub built_does : BuiltDoes
built_does u m p whole digest bytes memory input powers inputs rules built many image given last clocks t less =
    image_does u m p whole digest bytes memory input powers inputs rules built.legal built.agrees many image given last clocks t less
