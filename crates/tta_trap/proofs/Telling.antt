-- The circuit tells the fault of the next cycle.
use Rattle.std.proofs.Common.{inl, inr, ◌≡◌, ℕ, ◌^◌, ◌<◌, ◌≤◌, ◌==◌, Bool, true, false, not, ◌||◌, List, [], ◌∷◌, length, map, slice_get, Option, Some, None, refl, sym, ap, ◌∙◌, arith}
use Rattle.std.specs.Prelude.{is_some, IsTrue, if◌then◌else◌, nat_lt, nat_le, drop}
use Rattle.std.specs.Option.{option_map_or}
use Rattle.std.specs.List.{list_any}
use Rattle.std.proofs.lemmas.Bool.{eqb-true, lt-ltb, le-ltb, lt-leb, le-leb, leb-false, cases_lt, false≢true}
use Rattle.tta_list.proofs.Lists.{all_one}
use Rattle.tta_circuit.specs.Circuit.{Signal as OfSignal}
use Rattle.tta_hardware.specs.Cited.{Units, Machine, IsMachine, numbers, Kind, Jumps, Calls, Halts, lacks_operand, Instruction, is_legal, IsLegalCode, State, Pending, Running, next, carry_out, or_fault, or_wait, waits, acts, lands, takes_effect, fault_of, first_fault, effects_of, clashes, jumps_in_delay, reads_unset_register, reads_unset_port, first_some, control_of, pending_after, Const, Not, Either, Below, bit, is_set, value}
use Rattle.tta_code.specs.declared.code.Code.{Code as Program}
use Rattle.tta_hardware.specs.Signals.{Signal as Named, Pc, HasHalted, IsReset, IsPast, LacksRegister, LacksPort, LacksOperand, Clashes, FaultNow, Watches, Expression}
use Rattle.tta_hardware.specs.Chains.{any_of, first_of}
use Rattle.tta_hardware.specs.Stands.{Hardware, StandsFor, IsSettled, is_halted}
use Rattle.tta_hardware.specs.Laws.{Meet, brought, written_after, started_in, HasFetched}
use Rattle.tta_hardware.proofs.Bringing.{within_list}
use Rattle.tta_hardware.proofs.Chained.{set_bit}
use Rattle.tta_hardware.proofs.Fetching.{fetch_alike, low}
use Rattle.tta_hardware.proofs.Shown.{some_at}
use Rattle.tta_hardware.proofs.Stepping.{next_is}
use Rattle.tta_trap.specs.Watches.{is_outside, jumps_again, fault_choices}
use Rattle.tta_trap.specs.Tells.{Knows, IsWatched, fault_number, TellsFaults}
use Rattle.tta_trap.proofs.Tests.{any_set}
use Rattle.tta_trap.proofs.Moves.{registers_told, ports_told}
use Rattle.tta_trap.proofs.Operands.{operands_told}
use Rattle.tta_trap.proofs.Clashing.{clashes_told}
use Rattle.tta_trap.proofs.Jumping.{jumps_told}

-- ---- the first fault

-- the number of the first of five faults, told one after another
told : (a b c d e p q r v w : Bool) → a ≡ p → (p ≡ false → b ≡ q) → (p ≡ false → q ≡ false → c ≡ r)
    → (p ≡ false → q ≡ false → r ≡ false → d ≡ v) → (p ≡ false → q ≡ false → e ≡ w)
    → (if a then 60 else (if b then 61 else (if c then 62 else (if d then 63 else (if e then 64 else 0)))))
    ≡ option_map_or (λ n. n) (first_fault ((p, 60) ∷ (q, 61) ∷ (r, 62) ∷ (v, 63) ∷ (w, 64) ∷ [])) 0
told a b c d e true q r v w one two three four five = rw one refl
told a b c d e false true r v w one two three four five = rw (one, two refl) refl
told a b c d e false false true v w one two three four five = rw (one, two refl, three refl refl) refl
told a b c d e false false false true w one two three four five = rw (one, two refl, three refl refl, four refl refl refl) refl
told a b c d e false false false false true one two three four five =
    rw (one, two refl, three refl refl, four refl refl refl, five refl refl) refl
told a b c d e false false false false false one two three four five =
    rw (one, two refl, three refl refl, four refl refl refl, five refl refl) refl

-- a cycle without a fault has the number 0
no_number : (u : Units) (m : Machine) (s : State) (i : Instruction)
    → fault_number (or_wait s (waits s (started_in m s i)) (acts u m s (brought m s i) (started_in m s i) (written_after m s i))).outcome
    ≡ 0
no_number u m s i = by (waits s (started_in m s i)) where
  land : (base : State) → base.outcome ≡ Running → (p : Option Pending) → fault_number (lands base p).outcome ≡ 0
  land base runs None = ap fault_number runs
  land base runs (Some p) = at (p.time == base.cycle) where
    of : (k : Kind) → fault_number (takes_effect base (record p { kind = k })).outcome ≡ 0
    of Jumps = ap fault_number runs
    of Calls = ap fault_number runs
    of Halts = refl

    at : (b : Bool) → fault_number (if b then takes_effect base p else base).outcome ≡ 0
    at true = of p.kind
    at false = ap fault_number runs

  by : (b : Bool) → fault_number (or_wait s b (acts u m s (brought m s i) (started_in m s i) (written_after m s i))).outcome ≡ 0
  by true = refl
  by false = land _ refl (pending_after m s (first_some control_of (brought m s i)))

number_is : (s after : State) (f : Option ℕ) → fault_number after.outcome ≡ 0
    → fault_number (or_fault s f after).outcome ≡ option_map_or (λ n. n) f 0
number_is s after None none = none
number_is s after (Some n) none = refl

-- ---- the end of a list

-- what a list does not have stands past its end
past_end : {A : Type 0} (xs : List A) (k : ℕ) → slice_get xs k ≡ None → length xs ≤ k
past_end xs k none = elim (cases_lt k (length xs)) [
  | inl less ↦ absurd (false≢true (sym (ap is_some none) ∙ some_at xs k less))
  | inr past ↦ past
]

-- ---- one clock

module _ (u : Units) (m : Machine) (code : Program) (h : Hardware) (env : Named → ℕ) (s : State) (rules : IsMachine m)
    (legal : IsLegalCode m code) (stands : StandsFor m code h s) (knows : Knows m h.words s) (runs : s.outcome ≡ Running)
    (settled : IsSettled u m h env) (watched : IsWatched u m (length code.words) h env) (on : is_set (env IsReset) ≡ false) where
  abbrev set : Expression → Bool
  set e = is_set (value u h.memories env e)

  -- ---- the end of the code

  past_is : is_set (env (Watches IsPast)) ≡ nat_le (2 ^ m.control.address) s.pc
  past_is = ap is_set watched.past ∙ knows.past

  -- where there is an instruction, the address is not past the code
  inside : s.pc < length code.words → set (is_outside m (length code.words)) ≡ false
  inside less = by (length code.words == 2 ^ m.control.address) where
    no_past : is_set (env (Watches IsPast)) ≡ false
    no_past = past_is ∙ lt-leb (2 ^ m.control.address) s.pc (omega (arith, less, legal.room))

    at : env Pc ≡ s.pc
    at = settled.pc ∙ stands.pc ∙ low s.pc (2 ^ m.control.address) (omega (arith, less, legal.room))

    by : (b : Bool)
        → set (if b then OfSignal (Watches IsPast)
        else Either (OfSignal (Watches IsPast)) (Not (Below (OfSignal Pc) (Const m.control.address (length code.words))))) ≡ false
    by true = no_past
    by false =
        set_bit (is_set (env (Watches IsPast)) || is_set (bit (not (is_set (bit (nat_lt (env Pc) (length code.words)))))))
        ∙ ap (λ b. b || is_set (bit (not (is_set (bit (nat_lt (env Pc) (length code.words))))))) no_past
        ∙ ap (λ (n : ℕ). is_set (bit (not (is_set (bit (nat_lt n (length code.words))))))) at
        ∙ ap (λ b. is_set (bit (not (is_set (bit b))))) (lt-ltb s.pc (length code.words) less)

  -- where there is none, it is
  outside : length code.words ≤ s.pc → set (is_outside m (length code.words)) ≡ true
  outside more = by (length code.words == 2 ^ m.control.address) refl (nat_le (2 ^ m.control.address) s.pc) refl where
    by : (b : Bool) → (length code.words == 2 ^ m.control.address) ≡ b → (p : Bool) → nat_le (2 ^ m.control.address) s.pc ≡ p
        → set (if b then OfSignal (Watches IsPast)
        else Either (OfSignal (Watches IsPast)) (Not (Below (OfSignal Pc) (Const m.control.address (length code.words))))) ≡ true
    by true is p past =
        let whole : length code.words ≡ 2 ^ m.control.address = eqb-true (length code.words) (2 ^ m.control.address) is in
        past_is ∙ le-leb (2 ^ m.control.address) s.pc (omega (arith, whole, more))
    by false is true past =
        set_bit (is_set (env (Watches IsPast)) || is_set (bit (not (is_set (bit (nat_lt (env Pc) (length code.words)))))))
        ∙ ap (λ b. b || is_set (bit (not (is_set (bit (nat_lt (env Pc) (length code.words))))))) (past_is ∙ past)
    by false is false past =
        let less : s.pc < 2 ^ m.control.address = leb-false (2 ^ m.control.address) s.pc past in
        let at : env Pc ≡ s.pc = settled.pc ∙ stands.pc ∙ low s.pc (2 ^ m.control.address) less in
        set_bit (is_set (env (Watches IsPast)) || is_set (bit (not (is_set (bit (nat_lt (env Pc) (length code.words)))))))
        ∙ ap (λ b. b || is_set (bit (not (is_set (bit (nat_lt (env Pc) (length code.words))))))) (past_is ∙ past)
        ∙ ap (λ (n : ℕ). is_set (bit (not (is_set (bit (nat_lt n (length code.words))))))) at
        ∙ ap (λ b. is_set (bit (not (is_set (bit b))))) (le-ltb s.pc (length code.words) more)

  -- ---- the faults of an instruction

  module _ (i : Instruction) (at : slice_get code.words s.pc ≡ Some i) where
    good : is_legal m i ≡ true
    good = all_one (λ i. IsTrue (is_legal m i)) code.words s.pc i legal.words at

    fetched : HasFetched m env i
    fetched = (fetch_alike u m code h env s i rules settled stands.pc (stands.whole i at) legal at).0

    abbrev wires : (ℕ → Named) → ℕ → Bool
    wires wire n = set (any_of (map (λ k. OfSignal (wire k)) (numbers n)))

    first : wires (λ bus. Watches (LacksRegister bus)) (length m.buses) ≡ list_any (reads_unset_register s) (effects_of m i)
    first =
        any_set u h.memories env (λ bus. OfSignal (Watches (LacksRegister bus))) (numbers (length m.buses))
        ∙ registers_told u m (length code.words) rules h env s i good settled stands.words stands.ports fetched knows watched

    second : list_any (reads_unset_register s) (effects_of m i) ≡ false
        → wires (λ bus. Watches (LacksPort bus)) (length m.buses) ≡ list_any (reads_unset_port s) (effects_of m i)
    second none =
        any_set u h.memories env (λ bus. OfSignal (Watches (LacksPort bus))) (numbers (length m.buses))
        ∙ ports_told u m (length code.words) rules h env s i good settled stands.words stands.ports fetched knows watched none

    meet : list_any (reads_unset_register s) (effects_of m i) ≡ false → list_any (reads_unset_port s) (effects_of m i) ≡ false
        → Meet u m h env s i
    meet one two = record {
      rules = rules;
      legal = good;
      settled = settled;
      words = stands.words;
      ports = stands.ports;
      fetched = fetched;
      lacks = (one, two);
    }

    third : list_any (reads_unset_register s) (effects_of m i) ≡ false → list_any (reads_unset_port s) (effects_of m i) ≡ false
        → wires (λ unit. Watches (LacksOperand unit)) (length m.units) ≡ list_any lacks_operand (started_in m s i)
    third one two =
        any_set u h.memories env (λ unit. OfSignal (Watches (LacksOperand unit))) (numbers (length m.units))
        ∙ operands_told u m (length code.words) h env s i (meet one two) knows watched

    fourth : list_any (reads_unset_register s) (effects_of m i) ≡ false → list_any (reads_unset_port s) (effects_of m i) ≡ false
        → list_any lacks_operand (started_in m s i) ≡ false
        → wires (λ unit. Watches (Clashes unit)) (length m.units) ≡ list_any (clashes s) (started_in m s i)
    fourth one two three =
        any_set u h.memories env (λ unit. OfSignal (Watches (Clashes unit))) (numbers (length m.units))
        ∙ clashes_told u m (length code.words) h env s i (meet one two) stands.coming three watched

    fifth : list_any (reads_unset_register s) (effects_of m i) ≡ false → list_any (reads_unset_port s) (effects_of m i) ≡ false
        → set (jumps_again m) ≡ jumps_in_delay s (brought m s i)
    fifth one two = jumps_told u m h env s i (meet one two) stands.pending

    abbrev told_now : ℕ
    told_now =
        if wires (λ bus. Watches (LacksRegister bus)) (length m.buses) then 60
        else (if wires (λ bus. Watches (LacksPort bus)) (length m.buses) then 61
        else (if wires (λ unit. Watches (LacksOperand unit)) (length m.units) then 62
        else (if wires (λ unit. Watches (Clashes unit)) (length m.units) then 63
        else (if set (jumps_again m) then 64 else 0))))

    numbers_agree : told_now ≡ option_map_or (λ n. n) (fault_of s (effects_of m i) (brought m s i) (started_in m s i)) 0
    numbers_agree =
        told (wires (λ bus. Watches (LacksRegister bus)) (length m.buses)) (wires (λ bus. Watches (LacksPort bus)) (length m.buses))
        (wires (λ unit. Watches (LacksOperand unit)) (length m.units)) (wires (λ unit. Watches (Clashes unit)) (length m.units))
        (set (jumps_again m)) (list_any (reads_unset_register s) (effects_of m i)) (list_any (reads_unset_port s) (effects_of m i))
        (list_any lacks_operand (started_in m s i)) (list_any (clashes s) (started_in m s i)) (jumps_in_delay s (brought m s i))
        first second third fourth fifth

  -- ---- the number

  -- the circuit runs
  runs_too : env (Watches FaultNow) ≡ value u h.memories env (first_of (fault_choices m (length code.words)) (Const 7 0))
  runs_too =
      watched.fault
      ∙ ap (λ b. if b then 0 else value u h.memories env (first_of (fault_choices m (length code.words)) (Const 7 0)))
      (set_bit (is_set (env IsReset) || is_set (env HasHalted)) ∙ ap (λ b. b || is_set (env HasHalted)) on ∙ ap is_set settled.halted
      ∙ stands.halted ∙ ap is_halted runs)

  tells : env (Watches FaultNow) ≡ fault_number (next u m code s).outcome
  tells = runs_too ∙ by (slice_get code.words s.pc) refl
      ∙ sym (ap (λ t. fault_number t.outcome) (next_is u m code s runs)) where
        by : (o : Option Instruction) → slice_get code.words s.pc ≡ o
            → value u h.memories env (first_of (fault_choices m (length code.words)) (Const 7 0)) ≡ fault_number (carry_out u m s o).outcome
        by None at =
            ap (λ b. if b then 65 else value u h.memories env (first_of (drop 1 (fault_choices m (length code.words))) (Const 7 0)))
            (outside (past_end code.words s.pc at))
        by (Some i) at =
            ap (λ b. if b then 65 else told_now i at) (inside (within_list code.words s.pc (ap is_some at)))
            ∙ numbers_agree i at
            ∙ sym (number_is s
            (or_wait s (waits s (started_in m s i)) (acts u m s (brought m s i) (started_in m s i) (written_after m s i)))
            (fault_of s (effects_of m i) (brought m s i) (started_in m s i)) (no_number u m s i))

pub tells_faults : TellsFaults
tells_faults u m code h env s rules legal stands knows runs settled watched on =
    tells u m code h env s rules legal stands knows runs settled watched on
