-- What a circuit tells of the next cycle of its machine: whether it asks for a word, and whether it has one to put out.
use Rattle.std.proofs.Common.{◌≡◌, ℕ, ◌+◌, ◌<◌, Bool, true, false, ◌&&◌, nat_lt, List, [], ◌∷◌, ◌++◌, length, Option, Some, None, refl, sym, ap, ◌∙◌, arith, length-append}
use Rattle.std.specs.Prelude.{slice_get, is_none, is_some, fold}
use Rattle.std.specs.Option.{option_map_or}
use Rattle.std.specs.List.{find, filter_map}
use Rattle.std.proofs.lemmas.Bool.{false≢true, ltb-true, lt-ltb}
use Rattle.tta_hardware.specs.Cited.{Units, Machine, IsMachine, Start, Instruction, IsLegalCode, State, Running, Out, same_op, put_out, store_data, store_frame, take_in, next, carry_out, or_fault, or_wait, waits, acts, fault_of, effects_of, pending_after, first_some, control_of, is_set}
use Rattle.tta_code.specs.Cycle.{result_of}
use Rattle.tta_code.specs.declared.code.Code.{Code as Program}
use Rattle.tta_hardware.specs.Signals.{Signal as Named, Asks, Gives}
use Rattle.tta_hardware.specs.Stands.{Hardware, StandsFor, IsSettled}
use Rattle.tta_hardware.specs.Laws.{Meet, Streams, brought, written_after, started_in}
use Rattle.tta_hardware.specs.Theorem.{is_fault, is_waiting}
use Rattle.tta_hardware.proofs.Faultless.{IsSame, lands_same}
use Rattle.tta_hardware.proofs.Meeting as known
use Rattle.tta_hardware.proofs.Owners.{one_out, out_quiet, out_does}
use Rattle.tta_hardware.proofs.Serving.{apart, offered, some_starts}
use Rattle.tta_hardware.proofs.Single.{fold_one}
use Rattle.tta_hardware.proofs.Starting.{find_passes}
use Rattle.tta_hardware.proofs.Stepping.{next_is}

-- nothing is less than itself, and one word more is more
not_less : (n : ℕ) → nat_lt n n ≡ false
not_less n = by (nat_lt n n) refl where
  by : (b : Bool) → nat_lt n n ≡ b → b ≡ false
  by true is = absurd (let less : n < n = ltb-true n n is in omega (arith, less))
  by false is = refl

one_more : (ws : List ℕ) (w : ℕ) → nat_lt (length ws) (length (ws ++ w ∷ [])) ≡ true
one_more ws w =
    let longer : length (ws ++ w ∷ []) ≡ length ws + 1 = length-append ws (w ∷ []) in
    lt-ltb (length ws) (length (ws ++ w ∷ [])) (omega (arith, longer))

-- The next cycle of a state waits where the circuit asks for a word and none is left; and where it does not wait, it puts a word out
-- exactly where the circuit has one to put out.
pub record Tells (u : Units) (m : Machine) (code : Program) (env : Named → ℕ) (s : State) : Type 0 where
  pub waits : is_waiting (next u m code s).outcome ≡ (is_set (env Asks) && is_none (slice_get s.rest 0))
  pub puts : is_waiting (next u m code s).outcome ≡ false
      → nat_lt (length s.output) (length (next u m code s).output) ≡ is_set (env Gives)

module _ (u : Units) (m : Machine) (code : Program) (h : Hardware) (env : Named → ℕ) (s : State) (rules : IsMachine m)
    (legal : IsLegalCode m code) (stands : StandsFor m code h s) (runs : s.outcome ≡ Running) (settled : IsSettled u m h env)
    (i : Instruction) (at : slice_get code.words s.pc ≡ Some i)
    (no_fault : fault_of s (effects_of m i) (brought m s i) (started_in m s i) ≡ None) where
  abbrev ts : List Start
  ts = started_in m s i

  abbrev base : State
  base = record {
    written = written_after m s i;
    started = filter_map (result_of u s) ts ++ s.started;
    memory = fold store_data s.memory ts;
    frame = fold store_frame s.frame ts;
    rest = fold take_in s.rest ts;
    output = fold put_out s.output ts;
    pc = s.pc + 1;
    cycle = s.cycle + 1;
    pending = pending_after m s (first_some control_of (brought m s i));
    outcome = Running;
  }

  abbrev after : State
  after = acts u m s (brought m s i) ts (written_after m s i)

  same : IsSame after base
  same = lands_same base (pending_after m s (first_some control_of (brought m s i))) refl

  it : next u m code s ≡ or_wait s (waits s ts) after
  it = next_is u m code s runs ∙ ap (carry_out u m s) at ∙ ap (λ o. or_fault s o (or_wait s (waits s ts) after)) no_fault

  of_wait : (w : Bool) → is_waiting (or_wait s w after).outcome ≡ w
  of_wait true = refl
  of_wait false = same.goes_on refl

  streams : Streams env s ts
  streams = known.streams u m code h env s rules legal stands settled i at no_fault

  meet : Meet u m h env s i
  meet = known.meet u m code h env s rules legal stands settled i at no_fault

  waits_is : is_waiting (next u m code s).outcome ≡ waits s ts
  waits_is = ap (λ t. is_waiting t.outcome) it ∙ of_wait (waits s ts)

  -- the operation that puts a word out, if one starts
  abbrev out : Option Start
  out = find (λ t. same_op Out t.does.op) ts

  gives_is : is_set (env Gives) ≡ is_some out
  gives_is =
      ap is_set meet.settled.gives
      ∙ some_starts u m h env s i meet (known.third u m code h env s rules legal stands settled i at no_fault).0 (same_op Out)
      (one_out m meet.rules)

  output_is : after.output ≡ option_map_or (put_out s.output) out s.output
  output_is =
      same.output
      ∙ fold_one m (same_op Out) (one_out m meet.rules) put_out out_quiet s.output ts
      (apart u m h env s i meet (known.third u m code h env s rules legal stands settled i at no_fault).0)
      (offered u m h env s i meet (known.third u m code h env s rules legal stands settled i at no_fault).0)

  longer : (o : Option Start) → out ≡ o → nat_lt (length s.output) (length (option_map_or (put_out s.output) o s.output)) ≡ is_some o
  longer None is = not_less (length s.output)
  longer (Some t) is =
      ap (λ (ws : List ℕ). nat_lt (length s.output) (length ws)) (out_does s.output t (find_passes (λ t. same_op Out t.does.op) ts t is))
      ∙ one_more s.output t.word

  it_tells : Tells u m code env s
  it_tells = record {
    waits = waits_is ∙ ap (λ b. b && is_none (slice_get s.rest 0)) (sym streams.asks);
    puts = λ goes.
        ap (λ t. nat_lt (length s.output) (length t.output)) (it ∙ ap (λ w. or_wait s w after) (sym waits_is ∙ goes))
        ∙ ap (λ (ws : List ℕ). nat_lt (length s.output) (length ws)) output_is ∙ longer out refl ∙ sym gives_is;
  }

pub tells : (u : Units) (m : Machine) (code : Program) (h : Hardware) (env : Named → ℕ) (s : State) → IsMachine m → IsLegalCode m code
    → StandsFor m code h s → s.outcome ≡ Running → is_fault (next u m code s).outcome ≡ false → IsSettled u m h env
    → Tells u m code env s
tells u m code h env s rules legal stands runs fine settled =
    by (slice_get code.words s.pc) refl (sym (ap (λ t. is_fault t.outcome) (next_is u m code s runs)) ∙ fine)
  where
    fetched : (i : Instruction) → slice_get code.words s.pc ≡ Some i → (o : Option ℕ)
        → fault_of s (effects_of m i) (brought m s i) (started_in m s i) ≡ o
        → is_fault (or_fault s o
        (or_wait s (waits s (started_in m s i)) (acts u m s (brought m s i) (started_in m s i) (written_after m s i)))).outcome ≡ false
        → Tells u m code env s
    fetched i at (Some n) is fine = absurd (false≢true (sym fine))
    fetched i at None is fine = it_tells u m code h env s rules legal stands runs settled i at is

    by : (o : Option Instruction) → slice_get code.words s.pc ≡ o → is_fault (carry_out u m s o).outcome ≡ false → Tells u m code env s
    by None at fine = absurd (false≢true (sym fine))
    by (Some i) at fine = fetched i at (fault_of s (effects_of m i) (brought m s i) (started_in m s i)) refl fine
