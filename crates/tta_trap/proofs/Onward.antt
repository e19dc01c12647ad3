-- A clock that carries an instruction out leaves a circuit knowing of the next state.
use Rattle.std.proofs.Common.{◌≡◌, ℕ, ◌+◌, Bool, true, false, ◌||◌, List, ◌++◌, length, slice_get, Option, Some, None, refl, sym, ap, ◌∙◌, subst, arith}
use Rattle.std.specs.Prelude.{is_some, fold}
use Rattle.std.specs.List.{list_any, filter_map}
use Rattle.std.proofs.lemmas.Bool.{false≢true}
use Rattle.tta_code.specs.declared.code.Code.{Code as Program}
use Rattle.tta_code.specs.Cycle.{result_of}
use Rattle.tta_hardware.specs.Cited.{Units, Machine, IsMachine, KeptPort, kept, Stw, Stf, same_op, store_data, store_frame, put_out, take_in, lacks_operand, first_some, control_of, Instruction, IsLegalCode, State, Running, next, carry_out, or_fault, or_wait, waits, acts, lands, fault_of, effects_of, pending_after, bit, is_set, value}
use Rattle.tta_hardware.specs.Hardware.{store_port}
use Rattle.tta_hardware.specs.Signals.{Signal as Named, Store, Code, Data, Frame, Pc, HasWord, Watches}
use Rattle.tta_hardware.specs.Stands.{Hardware, StandsFor, IsSettled}
use Rattle.tta_hardware.specs.Laws.{Meet, brought, written_after, started_in, through}
use Rattle.tta_hardware.specs.Theorem.{is_fault, is_waiting, HasStepped}
use Rattle.tta_hardware.specs.Wires.{begins, is_coming}
use Rattle.tta_hardware.proofs.Bringing.{within_list}
use Rattle.tta_hardware.proofs.Chained.{set_bit}
use Rattle.tta_hardware.proofs.Faultless.{IsSame, lands_same}
use Rattle.tta_hardware.proofs.Meeting as known
use Rattle.tta_hardware.proofs.Shown.{some_at}
use Rattle.tta_hardware.proofs.Steering.{steers_alike}
use Rattle.tta_hardware.proofs.Stepping.{next_is, one_clock}
use Rattle.tta_trap.specs.Memory.{gets}
use Rattle.tta_trap.specs.Tells.{Knows, IsWatched, HasWatched, KnowsOn}
use Rattle.tta_trap.proofs.Holding.{held}
use Rattle.tta_trap.proofs.Jumping.{leads}
use Rattle.tta_trap.proofs.Knowing.{shown, past}

-- ---- a cycle that is carried out

module _ (u : Units) (m : Machine) (code : Program) (h : Hardware) (env after : Named → ℕ) (s : State) (rules : IsMachine m)
    (legal : IsLegalCode m code) (stands : StandsFor m code h s) (knows : Knows m h.words s) (settled : IsSettled u m h env)
    (watched : IsWatched u m (length code.words) h env) (on : HasWatched u m h env after)
    (i : Instruction) (at : slice_get code.words s.pc ≡ Some i)
    (no_fault : fault_of s (effects_of m i) (brought m s i) (started_in m s i) ≡ None) where
  meet : Meet u m h env s i
  meet = known.meet u m code h env s rules legal stands settled i at no_fault

  full : list_any lacks_operand (started_in m s i) ≡ false
  full = (known.third u m code h env s rules legal stands settled i at no_fault).0

  abbrev base : State
  base = record {
    written = written_after m s i;
    started = filter_map (result_of u s) (started_in m s i) ++ s.started;
    memory = fold store_data s.memory (started_in m s i);
    frame = fold store_frame s.frame (started_in m s i);
    rest = fold take_in s.rest (started_in m s i);
    output = fold put_out s.output (started_in m s i);
    pc = s.pc + 1;
    cycle = s.cycle + 1;
    pending = pending_after m s (first_some control_of (brought m s i));
    outcome = Running;
  }

  abbrev made : State
  made = lands base (pending_after m s (first_some control_of (brought m s i)))

  same : IsSame made base
  same = lands_same base (pending_after m s (first_some control_of (brought m s i))) refl

  either : (a b c : Bool) → is_set (bit (is_set (bit (a || b)) || c)) ≡ (a || b || c)
  either a b c = set_bit (is_set (bit (a || b)) || c) ∙ ap (λ x. x || c) (set_bit (a || b))

  -- the circuit knows of the state after it
  pub onward : Knows m after made
  onward = record {
    places = λ p can there.
        let got = is_set (value u h.memories env (gets m p)) in
        ap is_set (on.has_word p there) ∙ set_bit (got || is_set (env (Watches (HasWord p))))
        ∙ ap (λ b. got || b) (ap is_set (watched.has_word p) ∙ knows.places p can there)
        ∙ sym (held u m h env s i meet p can) ∙ ap (λ ws. is_some (kept ws p)) (sym same.written);
    ports = λ unit there.
        let now = is_set (value u h.memories env (begins m unit 1)) in
        let soon = is_set (value u h.memories env (is_coming m unit 1)) in
        ap is_set (on.has_word (KeptPort unit) (some_at m.units unit there))
        ∙ either now soon (is_set (env (Watches (HasWord (KeptPort unit)))))
        ∙ ap (λ b. now || soon || b) (ap is_set (watched.has_word (KeptPort unit)) ∙ knows.ports unit there)
        ∙ sym (shown u m h env s i meet stands.coming full unit there made same.started same.cycle);
    past =
        let inside = within_list code.words s.pc (ap is_some at) in
        let pc : h.words Pc ≡ s.pc = known.pc_is u m code h env s rules legal stands settled i at no_fault in
        let free = (known.fifth u m code h env s rules legal stands settled i at no_fault).0 in
        ap is_set on.past
        ∙ past u m h env s base (pending_after m s (first_some control_of (brought m s i)))
        (leads u m h env s settled stands.pending (first_some control_of (brought m s i)) (steers_alike u m h env s i meet) free)
        (settled.pc ∙ pc) (omega (arith, inside, legal.room)) refl refl;
  }

-- ---- one clock

-- the memories after a clock
abbrev stored : Units → Machine → Hardware → (Named → ℕ) → Store → List ℕ
stored u m h env Code = h.memories Code
stored u m h env Data = through u h.memories env (store_port m m.data_words (same_op Stw)) (h.memories Data)
stored u m h env Frame = through u h.memories env (store_port m m.frame_words (same_op Stf)) (h.memories Frame)

pub knows_on : KnowsOn
knows_on u m code h env after s rules legal stands knows runs settled watched reset fine fed goes clocked on =
    by (slice_get code.words s.pc) refl
    (sym (ap (λ t. is_fault t.outcome) (next_is u m code s runs)) ∙ fine)
    (sym (ap (λ t. is_waiting t.outcome) (next_is u m code s runs)) ∙ stepped.goes_on)
  where
    stepped : HasStepped u m code (record { words = after; memories = stored u m h env }) env s (next u m code s)
    stepped =
        (one_clock u m code h (record { words = after; memories = stored u m h env }) env s rules legal stands runs fine settled fed
        reset).0
        goes clocked (record { memory = refl; frame = refl; rom = refl })

    carried_out : (i : Instruction) → slice_get code.words s.pc ≡ Some i → (f : Option ℕ)
        → fault_of s (effects_of m i) (brought m s i) (started_in m s i) ≡ f → (w : Bool) → waits s (started_in m s i) ≡ w
        → is_fault (or_fault s f (or_wait s w (acts u m s (brought m s i) (started_in m s i) (written_after m s i)))).outcome ≡ false
        → is_waiting (or_fault s f (or_wait s w (acts u m s (brought m s i) (started_in m s i) (written_after m s i)))).outcome ≡ false
        → Knows m after (next u m code s)
    carried_out i at (Some n) is w wait no_fault no_wait = absurd (false≢true (sym no_fault))
    carried_out i at None is true wait no_fault no_wait = absurd (false≢true (sym no_wait))
    carried_out i at None is false wait no_fault no_wait =
        let it : next u m code s ≡ made u m code h env after s rules legal stands knows settled watched on i at is =
        next_is u m code s runs ∙ ap (carry_out u m s) at
        ∙ ap (λ o. or_fault s o
        (or_wait s (waits s (started_in m s i)) (acts u m s (brought m s i) (started_in m s i) (written_after m s i)))) is
        ∙ ap (λ b. or_wait s b (acts u m s (brought m s i) (started_in m s i) (written_after m s i))) wait in
        subst (Knows m after) (sym it) (onward u m code h env after s rules legal stands knows settled watched on i at is)

    by : (o : Option Instruction) → slice_get code.words s.pc ≡ o → is_fault (carry_out u m s o).outcome ≡ false
        → is_waiting (carry_out u m s o).outcome ≡ false → Knows m after (next u m code s)
    by None at no_fault no_wait = absurd (false≢true (sym no_fault))
    by (Some i) at no_fault no_wait =
        carried_out i at (fault_of s (effects_of m i) (brought m s i) (started_in m s i)) refl (waits s (started_in m s i)) refl no_fault
        no_wait
