-- Results on their way to the ports, from one clock to the next.
use Rattle.std.proofs.Common.{◌≡◌, ℕ, ◌+◌, ◌≤◌, ◌<◌, ◌==◌, Bool, true, false, ◌&&◌, ◌||◌, List, ◌++◌, length, Option, Some, None, refl, sym, ap, ◌∙◌, arith}
use Rattle.std.specs.Prelude.{is_some, if◌then◌else◌, slice_index, option_and_then, nat_lt, fold}
use Rattle.std.specs.Option.{option_map_or, option_or}
use Rattle.std.specs.List.{find, filter_map}
use Rattle.std.proofs.lemmas.Option.{none-some, same_Some}
use Rattle.std.proofs.lemmas.Bool.{and_parts, and_from, eqb-true, ltb-true, ltb-false, le-ltb}
use Rattle.std.proofs.lemmas.List.Folds.{find-append}
use Rattle.std.proofs.lemmas.List.Sums.{fold-append}
use Rattle.tta_hardware.specs.Cited.{Units, UnitOp, Machine, Start, KeptPort, has_result, result_word, State, Result', later, latest, is_due, due_at, word_due, is_set, value}
use Rattle.tta_code.specs.Cycle.{result_of}
use Rattle.tta_code.proofs.Latest.{latest-next}
use Rattle.tta_circuit.specs.Circuit.{Signal as OfSignal}
use Rattle.tta_hardware.specs.Signals.{Signal as Named, Keeps, IsDue, Due, HasBegun, Port, Starts}
use Rattle.tta_hardware.specs.Wires.{timed, begins, made, result_of as result_made, is_coming, coming, longest, never, nothing, is_load, loads, fresh}
use Rattle.tta_hardware.specs.Stands.{Hardware, IsSettled, HasClocked, HasComing, HasSpaces, StartsOne, Starting, start_in, coming_in, read_in, fresh_in}
use Rattle.tta_hardware.specs.Laws.{AreStarted, ResultsKeep}
use Rattle.tta_hardware.proofs.Chained.{any_found, first_found, some_if, set_bit}
use Rattle.tta_hardware.proofs.Timed.{not_due, port_word, none_by, some_by, found, one_timed, none_timed, some_timed, within_longest}
use Rattle.tta_hardware.proofs.Fresh.{no_load, fresh_value, as_starts}
use Rattle.tta_hardware.proofs.Begun.{word_either, begun_at, begun_due, begun_later, takes_some, latest-later}
use Rattle.tta_hardware.proofs.Shown.{some_at, same_sum, shown_word, read_of}

-- ---- one clock

module _ (u : Units) (m : Machine) (h : Hardware) (env after : Named → ℕ) (s : State) (ts : List Start)
    (settled : IsSettled u m h env) (clocked : HasClocked u m h env after) (spaces : HasSpaces m h s) (started : AreStarted m env s ts)
    (unit : ℕ) (there : unit < length m.units) where
  -- the result that begins now and shows after so many cycles
  abbrev begun : ℕ → Option ℕ
  begun latency = word_due (option_and_then (begun_at u s (s.cycle + latency)) (start_in unit ts))

  -- a word after the clock, or that of a load that began with this latency
  abbrev fresh_word : (latency other : ℕ) → ℕ
  fresh_word latency other = fresh_in m after unit latency other

  load_of : (latency : ℕ) → find (λ o. is_set (after (HasBegun unit o.0))) (loads m unit latency)
      ≡ find (λ o. is_set (env (Starts unit o.0))) (loads m unit latency)
  load_of latency = as_starts m env after unit latency (λ op o here is. clocked.begun unit op o here is)

  -- the load that starts, if it has this latency
  load_is : (t : Start) (one : StartsOne m env unit t) (latency other : ℕ) (b : Bool) → (is_load t.does.op && t.does.latency == latency) ≡ b
      → fresh_word latency other ≡ option_map_or (λ (o : ℕ × UnitOp). read_in after unit o.0) (if b then Some (one.op, t.does) else None)
      other
  load_is t one latency other b is =
      ap (λ o. option_map_or (λ (o : ℕ × UnitOp). read_in after unit o.0) o other)
      (load_of latency ∙ some_by m env unit (λ o. is_load o.1.op && o.1.latency == latency) t one
      ∙ ap (λ b. if b then Some (one.op, t.does) else None) is)

  -- where nothing begins with a latency, no load does
  stale : (latency : ℕ) → begun latency ≡ None → (other : ℕ) → fresh_word latency other ≡ other
  stale latency nothing_begins other = by (start_in unit ts) (started.alike unit there) nothing_begins where
    by : (o : Option Start) → Starting m env unit o → word_due (option_and_then (begun_at u s (s.cycle + latency)) o) ≡ None
        → fresh_word latency other ≡ other
    by None none is =
        ap (λ o. option_map_or (λ (o : ℕ × UnitOp). read_in after unit o.0) o other)
        (load_of latency ∙ none_by m env unit (λ o. is_load o.1.op && o.1.latency == latency) none)
    by (Some t) one is =
        load_is t one latency other false (no_load t.does.op (t.does.latency == latency)
        (sym (ap (λ b. has_result t.does.op && b) (same_sum s.cycle t.does.latency latency))
        ∙ not_due (has_result t.does.op && s.cycle + t.does.latency == s.cycle + latency)
        (record {
          unit = t.unit;
          due = s.cycle + t.does.latency;
          value =
              result_word u s.memory s.frame (slice_index s.rest 0) t t.does.op;
        }) is))

  -- the circuit begins it
  pub begins_it : (latency : ℕ) → (is_set (value u h.memories env (begins m unit latency)) ≡ is_some (begun latency))
      × ((w : ℕ) → begun latency ≡ Some w → fresh_word latency (value u h.memories env (made m unit latency)) ≡ w)
  begins_it latency = by (start_in unit ts) refl (started.alike unit there) where
    by : (o : Option Start) → start_in unit ts ≡ o → Starting m env unit o
        → (is_set (value u h.memories env (begins m unit latency))
        ≡ is_some (word_due (option_and_then (begun_at u s (s.cycle + latency)) o)))
        × ((w : ℕ) → word_due (option_and_then (begun_at u s (s.cycle + latency)) o) ≡ Some w
        → fresh_word latency (value u h.memories env (made m unit latency)) ≡ w)
    by None is none = (
      any_found u h.memories env (λ (o : ℕ × UnitOp). OfSignal (Starts unit o.0)) (timed m unit latency)
          ∙ ap is_some (none_timed m env unit latency none),
      λ w at. absurd (none-some w at),
    )
    by (Some t) is one = of (has_result t.does.op && t.does.latency == latency) refl where
      here : found m env unit latency ≡ one_timed one.op latency t.does
      here = some_timed m env unit latency t one

      begins_here : is_set (value u h.memories env (begins m unit latency)) ≡ is_some (found m env unit latency)
      begins_here = any_found u h.memories env (λ (o : ℕ × UnitOp). OfSignal (Starts unit o.0)) (timed m unit latency)

      made_here : value u h.memories env (made m unit latency) ≡ option_map_or (λ o. value u h.memories env (result_made m unit o.1))
          (found m env unit latency) 0
      made_here = first_found u h.memories env (λ (o : ℕ × UnitOp). OfSignal (Starts unit o.0)) (λ o. result_made m unit o.1)
          (timed m unit latency) nothing

      test_here : (has_result t.does.op && s.cycle + t.does.latency == s.cycle + latency)
          ≡ (has_result t.does.op && t.does.latency == latency)
      test_here = ap (λ b. has_result t.does.op && b) (same_sum s.cycle t.does.latency latency)

      word_of : (has_result t.does.op && t.does.latency == latency) ≡ true → (b : Bool) → is_load t.does.op ≡ b
          → fresh_word latency (value u h.memories env (made m unit latency))
          ≡ result_word u s.memory s.frame (slice_index s.rest 0) t t.does.op
      word_of shows true loads =
          load_is t one latency (value u h.memories env (made m unit latency)) true
          (and_from (is_load t.does.op) (t.does.latency == latency) loads
          (and_parts (has_result t.does.op) (t.does.latency == latency) shows).1)
          ∙ read_of u m h env s spaces unit after clocked t one loads
      word_of shows false other =
          load_is t one latency (value u h.memories env (made m unit latency)) false (ap (λ b. b && t.does.latency == latency) other)
          ∙ made_here ∙ ap (λ o. option_map_or (λ o. value u h.memories env (result_made m unit o.1)) o 0)
          (here ∙ ap (λ b. if b then Some (one.op, t.does) else None) shows)
          ∙ shown_word u m h env s spaces unit t one other (λ it. started.offered (takes_some unit t ts is it))

      of : (b : Bool) → (has_result t.does.op && t.does.latency == latency) ≡ b
          → (is_set (value u h.memories env (begins m unit latency)) ≡ is_some (word_due (begun_at u s (s.cycle + latency) t)))
          × ((w : ℕ) → word_due (begun_at u s (s.cycle + latency) t) ≡ Some w
          → fresh_word latency (value u h.memories env (made m unit latency)) ≡ w)
      of true shows = rw (test_here, shows) (
        begins_here ∙ ap is_some (here ∙ ap (λ b. if b then Some (one.op, t.does) else None) shows),
        λ w at.
            word_of shows (is_load t.does.op) refl
            ∙ same_Some (result_word u s.memory s.frame (slice_index s.rest 0) t t.does.op) w at,
      )
      of false shows = rw (test_here, shows) (
        begins_here ∙ ap is_some (here ∙ ap (λ b. if b then Some (one.op, t.does) else None) shows),
        λ w at. absurd (none-some w at),
      )

  -- a result that begins does so within the unit's longest latency
  beyond : (latency : ℕ) → longest m unit < latency → begun latency ≡ None
  beyond latency far = by (start_in unit ts) (started.alike unit there) where
    by : (o : Option Start) → Starting m env unit o → word_due (option_and_then (begun_at u s (s.cycle + latency)) o) ≡ None
    by None none = refl
    by (Some t) one = of (has_result t.does.op && s.cycle + t.does.latency == s.cycle + latency) refl where
      of : (b : Bool) → (has_result t.does.op && s.cycle + t.does.latency == s.cycle + latency) ≡ b
          → word_due (begun_at u s (s.cycle + latency) t) ≡ None
      of true shows =
          let parts = and_parts (has_result t.does.op) (s.cycle + t.does.latency == s.cycle + latency) shows in
          let same : s.cycle + t.does.latency ≡ s.cycle + latency = eqb-true (s.cycle + t.does.latency) (s.cycle + latency) parts.1 in
          absurd (omega (arith, far, same, within_longest m unit one.op t.does one.there))
      of false shows = rw shows refl

  -- what the circuit has for so many cycles from now
  comes_it : (delay : ℕ) → (is_set (value u h.memories env (is_coming m unit delay)) ≡ is_some (coming_in m h.words unit delay))
      × ((w : ℕ) → coming_in m h.words unit delay ≡ Some w → value u h.memories env (coming m unit delay) ≡ w)
  comes_it delay = by (nat_lt delay (longest m unit)) where
    kept_word : ℕ
    kept_word = fresh_in m h.words unit (delay + 1) (h.words (Due unit delay))

    due_word : (b : Bool) (w : ℕ) → (if b then Some kept_word else None) ≡ Some w
        → value u h.memories env (fresh m unit (delay + 1) (OfSignal (Due unit delay))) ≡ w
    due_word true w at =
        fresh_value u m h env settled unit (delay + 1) (OfSignal (Due unit delay))
        ∙ ap (fresh_in m h.words unit (delay + 1)) (settled.due unit delay) ∙ same_Some kept_word w at
    due_word false w at = absurd (none-some w at)

    by : (b : Bool) → (is_set (value u h.memories env (if b then OfSignal (IsDue unit delay) else never))
        ≡ is_some (if b && is_set (h.words (IsDue unit delay)) then Some kept_word else None))
        × ((w : ℕ) → (if b && is_set (h.words (IsDue unit delay)) then Some kept_word else None) ≡ Some w
        → value u h.memories env (if b then fresh m unit (delay + 1) (OfSignal (Due unit delay)) else nothing) ≡ w)
    by true = (
      ap is_set (settled.is_due unit delay) ∙ sym (some_if (is_set (h.words (IsDue unit delay))) kept_word),
      due_word (is_set (h.words (IsDue unit delay))),
    )
    by false = (refl, λ w at. absurd (none-some w at))

  choose : (f : ℕ → ℕ) (a b : Bool) (x y : ℕ) (p q : Option ℕ) → a ≡ is_some p → ((w : ℕ) → p ≡ Some w → f x ≡ w)
      → (p ≡ None → (z : ℕ) → f z ≡ z)
      → b ≡ is_some q → ((w : ℕ) → q ≡ Some w → y ≡ w) → (if a || b then Some (f (if a then x else y)) else None) ≡ option_or p q
  choose f a b x y (Some w) q has is old has' is' = rw has (ap (λ n. Some n) (is w refl))
  choose f a b x y None (Some w) has is old has' is' = rw (has, has') (ap (λ n. Some n) (old refl y ∙ is' w refl))
  choose f a b x y None None has is old has' is' = rw (has, has') refl

  -- the results on their way after the clock
  pub keeps_coming : (delay : ℕ) → 0 < delay → coming_in m after unit delay
      ≡ option_or (begun (delay + 1)) (coming_in m h.words unit (delay + 1))
  keeps_coming delay some = by (nat_lt delay (longest m unit)) refl where
    a : Bool
    a = is_set (value u h.memories env (begins m unit (delay + 1)))

    b : Bool
    b = is_set (value u h.memories env (is_coming m unit (delay + 1)))

    chosen : (if a || b
        then Some (fresh_word (delay + 1) (if a then value u h.memories env (made m unit (delay + 1))
        else value u h.memories env (coming m unit (delay + 1)))) else None)
        ≡ option_or (begun (delay + 1)) (coming_in m h.words unit (delay + 1))
    chosen =
        let one = begins_it (delay + 1) in
        let two = comes_it (delay + 1) in
        choose (fresh_word (delay + 1)) a b (value u h.memories env (made m unit (delay + 1)))
        (value u h.memories env (coming m unit (delay + 1)))
        (begun (delay + 1)) (coming_in m h.words unit (delay + 1)) one.0 one.1 (stale (delay + 1)) two.0 two.1

    by : (l : Bool) → nat_lt delay (longest m unit) ≡ l
        → (if l && is_set (after (IsDue unit delay)) then Some (fresh_word (delay + 1) (after (Due unit delay))) else None)
        ≡ option_or (begun (delay + 1)) (coming_in m h.words unit (delay + 1))
    by true is =
        let lt = ltb-true delay (longest m unit) is in
        ap (λ n. if is_set n then Some (fresh_word (delay + 1) (after (Due unit delay))) else None)
        (clocked.is_due unit delay there some lt)
        ∙ ap (λ b. if b then Some (fresh_word (delay + 1) (after (Due unit delay))) else None) (set_bit (a || b))
        ∙ ap (λ n. if a || b then Some (fresh_word (delay + 1) n) else None) (clocked.due unit delay there some lt) ∙ chosen
    by false is =
        let le : longest m unit ≤ delay = ltb-false delay (longest m unit) is in
        let past : nat_lt (delay + 1) (longest m unit) ≡ false = le-ltb (delay + 1) (longest m unit) (omega (arith, le)) in
        sym (ap (λ o. option_or o (coming_in m h.words unit (delay + 1))) (beyond (delay + 1) (omega (arith, le)))
        ∙ ap (λ l. if l && is_set (h.words (IsDue unit (delay + 1)))
        then Some (fresh_in m h.words unit (delay + 1 + 1) (h.words (Due unit (delay + 1)))) else None) past)

  -- ---- the state after the cycle

  abbrev news : List Result'
  news = filter_map (result_of u s) ts

  -- what is due then
  due_next : (delay : ℕ) → word_due (due_at unit (s.cycle + 1 + delay) (news ++ s.started))
      ≡ option_or (begun (delay + 1)) (word_due (due_at unit (s.cycle + (delay + 1)) s.started))
  due_next delay =
      let e : s.cycle + 1 + delay ≡ s.cycle + (delay + 1) = omega arith in
      ap word_due (find-append (is_due unit (s.cycle + 1 + delay)) news s.started)
      ∙ word_either (due_at unit (s.cycle + 1 + delay) news) (due_at unit (s.cycle + 1 + delay) s.started)
      ∙ ap (λ n. option_or (word_due (due_at unit n news)) (word_due (due_at unit n s.started))) e
      ∙ ap (λ o. option_or (word_due o) (word_due (due_at unit (s.cycle + (delay + 1)) s.started)))
      (begun_due u s (s.cycle + (delay + 1)) unit ts started.apart)

  or_assoc : (a b c : Option ℕ) → option_or (option_or a b) c ≡ option_or a (option_or b c)
  or_assoc None b c = refl
  or_assoc (Some x) b c = refl

  -- what the port shows then
  port_next : (before : HasComing m h.words s) → word_due (latest unit (s.cycle + 1) (news ++ s.started))
      ≡ option_or (begun 1) (option_or (coming_in m h.words unit 1) (word_due (latest unit s.cycle s.started)))
  port_next before =
      let e : s.cycle + 1 ≡ s.cycle + 1 + 0 = omega arith in
      ap word_due (latest-next unit s.cycle (news ++ s.started))
      ∙ word_either (due_at unit (s.cycle + 1) (news ++ s.started)) (latest unit s.cycle (news ++ s.started))
      ∙ ap (λ n. option_or (word_due (due_at unit n (news ++ s.started))) (word_due (latest unit s.cycle (news ++ s.started)))) e
      ∙ ap (λ o. option_or o (word_due (latest unit s.cycle (news ++ s.started)))) (due_next 0)
      ∙ ap (λ o. option_or (option_or (begun 1) (word_due (due_at unit (s.cycle + 1) s.started))) (word_due o))
      (fold-append (later unit s.cycle) None news s.started
      ∙ ap (λ best. fold (later unit s.cycle) best s.started) (latest-later unit s.cycle None news (begun_later u s ts started.later)))
      ∙ ap (λ o. option_or (option_or (begun 1) o) (word_due (latest unit s.cycle s.started))) (sym (before unit 1 there (omega arith)))
      ∙ or_assoc (begun 1) (coming_in m h.words unit 1) (word_due (latest unit s.cycle s.started))

  -- the port's register then
  pub keeps_port : (w : ℕ) → (old : Option ℕ) → ((v : ℕ) → old ≡ Some v → fresh_in m h.words unit 1 (h.words (Keeps (KeptPort unit))) ≡ v)
      → option_or (begun 1) (option_or (coming_in m h.words unit 1) old) ≡ Some w → fresh_word 1 (after (Keeps (KeptPort unit))) ≡ w
  keeps_port w old had is = ap (fresh_word 1) (clocked.places (KeptPort unit) (some_at m.units unit there))
      ∙ by (begun 1) refl (coming_in m h.words unit 1) refl old had is where
        one : (is_set (value u h.memories env (begins m unit 1)) ≡ is_some (begun 1))
            × ((w : ℕ) → begun 1 ≡ Some w → fresh_word 1 (value u h.memories env (made m unit 1)) ≡ w)
        one = begins_it 1

        two : (is_set (value u h.memories env (is_coming m unit 1)) ≡ is_some (coming_in m h.words unit 1))
            × ((w : ℕ) → coming_in m h.words unit 1 ≡ Some w → value u h.memories env (coming m unit 1) ≡ w)
        two = comes_it 1

        by : (p : Option ℕ) → begun 1 ≡ p → (q : Option ℕ) → coming_in m h.words unit 1 ≡ q → (o : Option ℕ)
            → ((v : ℕ) → o ≡ Some v → fresh_in m h.words unit 1 (h.words (Keeps (KeptPort unit))) ≡ v)
            → option_or p (option_or q o) ≡ Some w
            → fresh_word 1 (if is_set (value u h.memories env (begins m unit 1)) then value u h.memories env (made m unit 1)
            else (if is_set (value u h.memories env (is_coming m unit 1)) then value u h.memories env (coming m unit 1)
            else env (Port unit)))
            ≡ w
        by (Some x) p_is q q_is o has is = rw (one.0 ∙ ap is_some p_is) (one.1 x p_is ∙ same_Some x w is)
        by None p_is (Some x) q_is o has is =
            rw (one.0 ∙ ap is_some p_is, two.0 ∙ ap is_some q_is) (stale 1 p_is (value u h.memories env (coming m unit 1)) ∙ two.1 x q_is
            ∙ same_Some x w is)
        by None p_is None q_is o has is = rw (one.0 ∙ ap is_some p_is, two.0 ∙ ap is_some q_is)
            (stale 1 p_is (env (Port unit)) ∙ settled.port unit there
            ∙ fresh_value u m h env settled unit 1 (OfSignal (Keeps (KeptPort unit)))
            ∙ ap (fresh_in m h.words unit 1) (settled.places (KeptPort unit)) ∙ has w is)

pub results_keep : ResultsKeep
results_keep u m h env after s t ts settled clocked spaces started coming_before ports_before is_started is_cycle = (
  λ unit delay there some.
      keeps_coming u m h env after s ts settled clocked spaces started unit there delay some
      ∙ ap (option_or (begun u m h env after s ts settled clocked spaces started unit there (delay + 1)))
      (coming_before unit (delay + 1) there (omega arith))
      ∙ sym (due_next u m h env after s ts settled clocked spaces started unit there delay)
      ∙ ap (λ n. word_due (due_at unit (n + delay) (filter_map (result_of u s) ts ++ s.started))) (sym is_cycle)
      ∙ ap (λ rs. word_due (due_at unit (t.cycle + delay) rs)) (sym is_started),
  λ unit w there shows.
      keeps_port u m h env after s ts settled clocked spaces started unit there w (word_due (latest unit s.cycle s.started))
      (λ v is. ports_before unit v there (port_word (latest unit s.cycle s.started) ∙ is))
      (sym (ap (λ n. word_due (latest unit n (filter_map (result_of u s) ts ++ s.started))) is_cycle
      ∙ port_next u m h env after s ts settled clocked spaces started unit there coming_before)
      ∙ ap (λ rs. word_due (latest unit t.cycle rs)) (sym is_started)
      ∙ sym (port_word (latest unit t.cycle t.started)) ∙ shows),
)
