-- The pins by which words come and go.
use Rattle.std.proofs.Common.{◌≡◌, ℕ, suc, Bool, true, false, not, ◌&&◌, ◌||◌, List, length, Option, Some, None, slice_get, refl, sym, ap, ◌∙◌}
use Rattle.std.specs.Prelude.{is_some, nat_lt}
use Rattle.std.specs.List.{find, list_any}
use Rattle.std.proofs.lemmas.Option.{same_Some}
use Rattle.std.proofs.lemmas.Bool.{false≢true, or_left, or_right, ltb-true, ltb-false}
use Rattle.tta_hardware.specs.Cited.{Units, Op, Ldw, Stw, Ldf, Stf, Out, Take, Set, Machine, IsMachine, same_op, is_stream_op, Start, lacks_operand, Instruction, IsLegalCode, State, Outcome, Running, Halted, Waiting, Fault, carry_out, or_fault, or_wait, waits, acts, fault_of, effects_of, cyc, bit, is_set}
use Rattle.tta_code.specs.declared.code.Code.{Code as Program}
use Rattle.tta_hardware.specs.Signals.{Signal as Named, HasHalted, IsOffered, IsReady, IsReset, Asks, Gives, Goes}
use Rattle.tta_hardware.specs.Hardware.{circuit_of}
use Rattle.tta_hardware.specs.Stands.{Hardware, IsSettled, start_in, is_halted}
use Rattle.tta_hardware.specs.Laws.{Meet, brought, written_after, started_in}
use Rattle.tta_hardware.specs.Theorem.{is_fault, is_waiting}
use Rattle.tta_hardware.specs.Runs.{hardware, signals, cycles, AreClocks, HasRun}
use Rattle.tta_hardware.specs.Pins.{StreamsApart, PinsSay, PinsServe}
use Rattle.tta_hardware.proofs.Chained.{set_bit, going}
use Rattle.tta_hardware.proofs.Starting.{find_passes}
use Rattle.tta_hardware.proofs.Single.{IsOffered as IsUnits, found_all, first_of_unit, same_unit}
use Rattle.tta_hardware.proofs.Serving.{apart, offered, some_starts}
use Rattle.tta_hardware.proofs.Owners.{turned, one_out, one_take}
use Rattle.tta_hardware.proofs.Meeting as known
use Rattle.tta_hardware.proofs.Stepping.{next_is}
use Rattle.tta_hardware.proofs.Circuits.{is_settled, reset_is}
use Rattle.tta_hardware.proofs.Running.{circuit_runs}

-- ---- one cycle

-- an operation is no two
no_two : (o : Op) → same_op Take o ≡ true → same_op Out o ≡ true → false ≡ true
no_two Ldw a b = a
no_two Stw a b = a
no_two Ldf a b = a
no_two Stf a b = a
no_two Out a b = a
no_two Take a b = b
no_two (Set id) a b = a

module _ (u : Units) (m : Machine) (h : Hardware) (env : Named → ℕ) (s : State) (i : Instruction) (meet : Meet u m h env s i)
    (lacks : list_any lacks_operand (started_in m s i) ≡ false) where
  abbrev ts : List Start
  ts = started_in m s i

  -- no word is taken and another put out
  not_both : (o q : Option Start) → find (λ t. same_op Take t.does.op) ts ≡ o → find (λ t. same_op Out t.does.op) ts ≡ q
      → is_some o ≡ true → is_some q ≡ false
  not_both None q at at' some = absurd (false≢true some)
  not_both (Some t) None at at' some = refl
  not_both (Some t) (Some x) at at' some = absurd (false≢true (no_two x.does.op took put)) where
    took_it : same_op Take t.does.op ≡ true
    took_it = find_passes (λ t. same_op Take t.does.op) ts t at

    put : same_op Out x.does.op ≡ true
    put = find_passes (λ t. same_op Out t.does.op) ts x at'

    units : t.unit ≡ x.unit
    units =
        same_unit m is_stream_op meet.rules.one_stream t x
        (found_all (IsUnits m) (λ t. same_op Take t.does.op) ts t at (offered u m h env s i meet lacks))
        (found_all (IsUnits m) (λ t. same_op Out t.does.op) ts x at' (offered u m h env s i meet lacks))
        (or_right (same_op t.does.op Out) (same_op t.does.op Take) (turned Take t.does.op took_it))
        (or_left (same_op x.does.op Out) (same_op x.does.op Take) (turned Out x.does.op put))

    same : t ≡ x
    same =
        same_Some t x (sym (first_of_unit (λ t. same_op Take t.does.op) ts t (apart u m h env s i meet lacks) at)
        ∙ ap (λ n. start_in n ts) units ∙ first_of_unit (λ t. same_op Out t.does.op) ts x (apart u m h env s i meet lacks) at')

    took : same_op Take x.does.op ≡ true
    took = ap (λ (y : Start). same_op Take y.does.op) (sym same) ∙ took_it

  apart_here : is_set (env Asks) ≡ true → is_set (env Gives) ≡ false
  apart_here asks =
      ap is_set meet.settled.gives ∙ some_starts u m h env s i meet lacks (same_op Out) (one_out m meet.rules)
      ∙ not_both (find (λ t. same_op Take t.does.op) ts) (find (λ t. same_op Out t.does.op) ts) refl refl
      (sym (ap is_set meet.settled.asks ∙ some_starts u m h env s i meet lacks (same_op Take) (one_take m meet.rules)) ∙ asks)

pub streams_apart : StreamsApart
streams_apart u m code h env s rules legal stands runs fine settled =
    by (slice_get code.words s.pc) refl (sym (ap (λ t. is_fault t.outcome) (next_is u m code s runs)) ∙ fine) where
      fetched : (i : Instruction) → slice_get code.words s.pc ≡ Some i → (o : Option ℕ)
          → fault_of s (effects_of m i) (brought m s i) (started_in m s i) ≡ o
          → is_fault (or_fault s o
          (or_wait s (waits s (started_in m s i)) (acts u m s (brought m s i) (started_in m s i) (written_after m s i)))).outcome ≡ false
          → is_set (env Asks) ≡ true → is_set (env Gives) ≡ false
      fetched i at (Some n) is fine = absurd (false≢true (sym fine))
      fetched i at None is fine =
          apart_here u m h env s i (known.meet u m code h env s rules legal stands settled i at is)
          (known.third u m code h env s rules legal stands settled i at is).0

      by : (o : Option Instruction) → slice_get code.words s.pc ≡ o → is_fault (carry_out u m s o).outcome ≡ false
          → is_set (env Asks) ≡ true → is_set (env Gives) ≡ false
      by None at fine = absurd (false≢true (sym fine))
      by (Some i) at fine = fetched i at (fault_of s (effects_of m i) (brought m s i) (started_in m s i)) refl fine

-- ---- tests

-- whether a clock goes, from whether it begins anew, whether the machine has halted, and what is asked, offered, given and taken
abbrev pub goes_by : (x h a o g r : Bool) → Bool
goes_by x h a o g r = not x && (not h && ((not a || o) && (not g || r)))

and_false : (b : Bool) → (b && false) ≡ false
and_false true = refl
and_false false = refl

and_true : (b : Bool) → (b && true) ≡ b
and_true true = refl
and_true false = refl

out_by : (x h a o g r : Bool) → (x ≡ false → h ≡ false → a ≡ true → g ≡ false) → ((not x && (not h && g)) && r) ≡ (goes_by x h a o g r && g)
out_by true h a o g r not_both = refl
out_by false true a o g r not_both = refl
out_by false false a o false r not_both = sym (and_false ((not a || o) && true))
out_by false false true o true r not_both = absurd (false≢true (sym (not_both refl refl refl)))
out_by false false false o true r not_both = sym (and_true r)

taken_by : (x h a o g r : Bool) → (x ≡ false → h ≡ false → a ≡ true → g ≡ false)
    → ((not x && (not h && a)) && o) ≡ (goes_by x h a o g r && a)
taken_by true h a o g r not_both = refl
taken_by false true a o g r not_both = refl
taken_by false false false o g r not_both = sym (and_false (not g || r))
taken_by false false true o true r not_both = absurd (false≢true (sym (not_both refl refl refl)))
taken_by false false true o false r not_both = sym (and_true (o && true) ∙ and_true o)

-- ---- every clock

module _ (u : Units) (m : Machine) (code : Program) (memory input : List ℕ) (powers : Named → ℕ) (inputs : ℕ → Named → ℕ)
    (rules : IsMachine m) (legal : IsLegalCode m code) (sized : length memory ≡ m.data_words)
    (fine : (n : ℕ) → is_fault (cyc u m code memory input n).outcome ≡ false)
    (last : ℕ) (clocks : AreClocks u (circuit_of m code memory) input powers inputs last) (t : ℕ) where
  abbrev held : Hardware
  held = hardware u m code memory powers inputs t

  abbrev env : Named → ℕ
  env = signals u m code memory powers inputs t

  its : IsSettled u m held env
  its = is_settled u m code memory held (inputs t)

  -- no word is taken and another put out at one clock
  not_at_once : is_set (env IsReset) ≡ false → is_set (env HasHalted) ≡ false → is_set (env Asks) ≡ true → is_set (env Gives) ≡ false
  not_at_once on goes_on = at (nat_lt last t) refl where
    state : State
    state = cyc u m code memory input (cycles u m code memory powers inputs t)

    at : (b : Bool) → nat_lt last t ≡ b → is_set (env Asks) ≡ true → is_set (env Gives) ≡ false
    at false early =
        absurd (false≢true (sym on ∙ ap is_set (reset_is u m code memory held (inputs t)) ∙ clocks.reset t (ltb-false last t early)))
    at true late = by state.outcome refl where
      run : HasRun u m code memory input powers inputs t state
      run = circuit_runs u m code memory input powers inputs rules legal sized fine last clocks t (ltb-true last t late)

      by : (o : Outcome) → state.outcome ≡ o → is_set (env Asks) ≡ true → is_set (env Gives) ≡ false
      by Running is =
          streams_apart u m code held env state rules legal run.stands is (fine (suc (cycles u m code memory powers inputs t))) its
      by Halted is = absurd (false≢true (sym goes_on ∙ ap is_set its.halted ∙ run.stands.halted ∙ ap is_halted is))
      by Waiting is = absurd (false≢true (sym run.goes_on ∙ ap is_waiting is))
      by (Fault number place) is = absurd (false≢true (sym (fine (cycles u m code memory powers inputs t)) ∙ ap is_fault is))

  pub goes_is : is_set (env Goes) ≡ goes_by (is_set (env IsReset)) (is_set (env HasHalted)) (is_set (env Asks)) (is_set (env IsOffered))
      (is_set (env Gives)) (is_set (env IsReady))
  goes_is =
      ap is_set its.goes ∙ going (is_set (env IsReset)) (is_set (env HasHalted)) (is_set (env Asks)) (is_set (env IsOffered))
      (is_set (env Gives)) (is_set (env IsReady))

  -- a pin, from the tests that it is made of
  pin : (x h g : Bool) → is_set (bit (is_set (bit (not x)) && is_set (bit (is_set (bit (not h)) && g)))) ≡ (not x && (not h && g))
  pin true h g = refl
  pin false true g = refl
  pin false false true = refl
  pin false false false = refl

  pub pins_say : PinsSay u held env
  pins_say = record {
    out = ap (λ b. b && is_set (env IsReady)) (pin (is_set (env IsReset)) (is_set (env HasHalted)) (is_set (env Gives)))
        ∙ out_by (is_set (env IsReset)) (is_set (env HasHalted)) (is_set (env Asks)) (is_set (env IsOffered)) (is_set (env Gives))
        (is_set (env IsReady)) not_at_once
        ∙ ap (λ b. b && is_set (env Gives)) (sym goes_is)
        ∙ sym (ap is_set its.puts ∙ set_bit (is_set (env Goes) && is_set (env Gives)));
    taken = ap (λ b. b && is_set (env IsOffered)) (pin (is_set (env IsReset)) (is_set (env HasHalted)) (is_set (env Asks)))
        ∙ taken_by (is_set (env IsReset)) (is_set (env HasHalted)) (is_set (env Asks)) (is_set (env IsOffered)) (is_set (env Gives))
        (is_set (env IsReady)) not_at_once
        ∙ ap (λ b. b && is_set (env Asks)) (sym goes_is);
  }

pub pins_serve : PinsServe
pins_serve u m code memory input powers inputs rules legal sized fine last clocks t =
    pins_say u m code memory input powers inputs rules legal sized fine last clocks t
