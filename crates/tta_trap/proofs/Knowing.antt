-- After a clock that carries an instruction out a circuit knows of the next state.
use Rattle.std.proofs.Common.{◌≡◌, ℕ, ◌+◌, ◌-◌, ◌^◌, ◌<◌, ◌==◌, Bool, true, false, not, ◌&&◌, ◌||◌, List, ◌++◌, length, Option, Some, None, refl, sym, ap, ◌∙◌, arith}
use Rattle.std.specs.Prelude.{is_some, if◌then◌else◌, option_and_then, nat_lt, nat_le, fold}
use Rattle.std.specs.Option.{option_map_or}
use Rattle.std.specs.List.{find, list_any, filter_map}
use Rattle.std.proofs.lemmas.Bool.{eq-eqb, ne_eqb, lt-ltb, le-ltb, leb-true, leb-false}
use Rattle.std.proofs.lemmas.List.Folds.{find-append}
use Rattle.std.proofs.lemmas.List.Sums.{fold-append}
use Rattle.tta_code.proofs.Latest.{latest-next}
use Rattle.tta_code.specs.Cycle.{result_of}
use Rattle.tta_circuit.specs.Circuit.{Signal as OfSignal}
use Rattle.tta_hardware.specs.Cited.{Units, UnitOp, Machine, Kind, Jumps, Calls, Halts, Start, has_result, lacks_operand, Instruction, State, Pending, later, latest, is_due, due_at, port, Result', lands, takes_effect, bit, is_set, value}
use Rattle.tta_hardware.specs.Signals.{Signal as Named, Pc, GoalNow, EndsNow, Lands, Starts}
use Rattle.tta_hardware.specs.Wires.{begins, is_coming, timed}
use Rattle.tta_hardware.specs.Stands.{Hardware, HasComing, Starting, start_in, halts}
use Rattle.tta_hardware.specs.Laws.{Meet, brought, written_after, started_in}
use Rattle.tta_hardware.proofs.Apart.{all_later}
use Rattle.tta_hardware.proofs.Begun.{begun_at, begun_due, begun_later, latest-later}
use Rattle.tta_hardware.proofs.Chained.{set_bit, some_if, any_found}
use Rattle.tta_hardware.proofs.Serving.{apart}
use Rattle.tta_hardware.proofs.Shown.{same_sum}
use Rattle.tta_hardware.proofs.Started.{starts_alike}
use Rattle.tta_hardware.proofs.Timed.{none_timed, some_timed}
use Rattle.tta_trap.specs.Memory.{is_far, past_next}
use Rattle.tta_trap.proofs.Clashing.{coming_told, some_due}
use Rattle.tta_trap.proofs.Jumping.{Leads, leads}
use Rattle.tta_trap.proofs.Tests.{some_or, any_finds}

-- ---- result ports

-- a result port has shown a word where a result was due
shown_some : (o : Option Result') → is_some (option_map_or (λ r. Some r.value) o None) ≡ is_some o
shown_some None = refl
shown_some (Some r) = refl

module _ (u : Units) (m : Machine) (h : Hardware) (env : Named → ℕ) (s : State) (i : Instruction) (meet : Meet u m h env s i)
    (coming : HasComing m h.words s) (full : list_any lacks_operand (started_in m s i) ≡ false) (unit : ℕ)
    (there : unit < length m.units) where
  abbrev ts : List Start
  ts = started_in m s i

  abbrev news : List Result'
  news = filter_map (result_of u s) ts

  -- whether a result begins that shows in the next cycle
  begins_told : is_set (value u h.memories env (begins m unit 1)) ≡ is_some (due_at unit (s.cycle + 1) news)
  begins_told =
      any_found u h.memories env (λ (o : ℕ × UnitOp). OfSignal (Starts unit o.0)) (timed m unit 1)
      ∙ by (start_in unit ts) (starts_alike u m h env s i meet full unit there)
      ∙ ap is_some (sym (begun_due u s (s.cycle + 1) unit ts (apart u m h env s i meet full)))
    where
      by : (o : Option Start) → Starting m env unit o
          → is_some (find (λ o. is_set (env (Starts unit o.0))) (timed m unit 1)) ≡ is_some (option_and_then (begun_at u s (s.cycle + 1)) o)
      by None none = ap is_some (none_timed m env unit 1 none)
      by (Some t) one =
          ap is_some (some_timed m env unit 1 t one) ∙ some_if (has_result t.does.op && t.does.latency == 1) (one.op, t.does)
          ∙ ap (λ b. has_result t.does.op && b) (sym (same_sum s.cycle t.does.latency 1))
          ∙ sym (some_if (has_result t.does.op && s.cycle + t.does.latency == s.cycle + 1) _)

  -- the ports of the next state
  pub shown : (t : State) → t.started ≡ news ++ s.started → t.cycle ≡ s.cycle + 1
      → is_some (port t unit)
      ≡ (is_set (value u h.memories env (begins m unit 1)) || is_set (value u h.memories env (is_coming m unit 1)) || is_some (port s unit))
  shown t started cycle =
      shown_some (latest unit t.cycle t.started)
      ∙ ap (λ n. is_some (latest unit n t.started)) cycle ∙ ap (λ rs. is_some (latest unit (s.cycle + 1) rs)) started
      ∙ ap is_some (latest-next unit s.cycle (news ++ s.started))
      ∙ some_or (due_at unit (s.cycle + 1) (news ++ s.started)) (latest unit s.cycle (news ++ s.started))
      ∙ ap (λ b. b || is_some (latest unit s.cycle (news ++ s.started)))
      (ap is_some (find-append (is_due unit (s.cycle + 1)) news s.started)
      ∙ some_or (due_at unit (s.cycle + 1) news) (due_at unit (s.cycle + 1) s.started)
      ∙ ap (λ b. b || is_some (due_at unit (s.cycle + 1) s.started)) (sym begins_told)
      ∙ ap (λ b. is_set (value u h.memories env (begins m unit 1)) || b)
      (sym (any_finds (is_due unit (s.cycle + 1)) s.started) ∙ sym (some_due unit (s.cycle + 1) s.started)
      ∙ ap is_some (sym (coming unit 1 there (omega arith))) ∙ sym (coming_told u m h env meet.settled unit 1)))
      ∙ ap (λ b. (is_set (value u h.memories env (begins m unit 1)) || is_set (value u h.memories env (is_coming m unit 1))) || b)
      (ap is_some
      (fold-append (later unit s.cycle) None news s.started
      ∙ ap (λ best. fold (later unit s.cycle) best s.started) (latest-later unit s.cycle None news
      (begun_later u s ts (all_later m meet.rules (written_after m s i) (brought m s i)))))
      ∙ sym (shown_some (latest unit s.cycle s.started)))

-- ---- the address

module _ (u : Units) (m : Machine) (h : Hardware) (env : Named → ℕ) (s base : State) (p : Option Pending) (leading : Leads env s p)
    (at : env Pc ≡ s.pc) (small : s.pc < 2 ^ m.control.address) (cycle : base.cycle ≡ s.cycle + 1) (next_pc : base.pc ≡ s.pc + 1) where
  abbrev told : ℕ
  told = value u h.memories env (past_next m)

  -- where no control move leads elsewhere
  on : (is_set (env Lands) && not (is_set (env EndsNow))) ≡ false
      → is_set told ≡ nat_le (2 ^ m.control.address) (s.pc + 1)
  on none =
      ap (λ b. is_set (if b then value u h.memories env (is_far m) else bit (env Pc == 2 ^ m.control.address - 1)))
      (set_bit (is_set (env Lands) && is_set (bit (not (is_set (env EndsNow)))))
      ∙ ap (λ b. is_set (env Lands) && b) (set_bit (not (is_set (env EndsNow)))) ∙ none)
      ∙ set_bit (env Pc == 2 ^ m.control.address - 1) ∙ ap (λ (n : ℕ). n == 2 ^ m.control.address - 1) at
      ∙ last s.pc (2 ^ m.control.address) small (nat_le (2 ^ m.control.address) (s.pc + 1)) refl
    where
      last : (n w : ℕ) → n < w → (b : Bool) → nat_le w (n + 1) ≡ b → (n == w - 1) ≡ b
      last n w less true is = eq-eqb n (w - 1) (let e = leb-true w (n + 1) is in omega (arith, e, less))
      last n w less false is = ne_eqb n (w - 1) (λ same. let e = leb-false w (n + 1) is in omega (arith, e, less, same))

  -- where one does
  away : (is_set (env Lands) && not (is_set (env EndsNow))) ≡ true → is_set told ≡ nat_le (2 ^ m.control.address) (env GoalNow)
  away leads =
      ap (λ b. is_set (if b then value u h.memories env (is_far m) else bit (env Pc == 2 ^ m.control.address - 1)))
      (set_bit (is_set (env Lands) && is_set (bit (not (is_set (env EndsNow)))))
      ∙ ap (λ b. is_set (env Lands) && b) (set_bit (not (is_set (env EndsNow)))) ∙ leads)
      ∙ set_bit (not (is_set (bit (nat_lt (env GoalNow) (2 ^ m.control.address)))))
      ∙ ap not (set_bit (nat_lt (env GoalNow) (2 ^ m.control.address)))
      ∙ far (env GoalNow) (2 ^ m.control.address) (nat_le (2 ^ m.control.address) (env GoalNow)) refl
    where
      far : (n w : ℕ) → (b : Bool) → nat_le w n ≡ b → not (nat_lt n w) ≡ b
      far n w true is = ap not (le-ltb n w (let e = leb-true w n is in omega (arith, e)))
      far n w false is = ap not (lt-ltb n w (let e = leb-false w n is in omega (arith, e)))

  -- whether the next address is past all
  pub past : is_set told ≡ nat_le (2 ^ m.control.address) (lands base p).pc
  past = by p refl where
    stays : is_set (env Lands) ≡ false → is_set told ≡ nat_le (2 ^ m.control.address) base.pc
    stays not_now =
        on (ap (λ b. b && not (is_set (env EndsNow))) not_now) ∙ ap (nat_le (2 ^ m.control.address)) (sym next_pc)

    takes : (q : Pending) → p ≡ Some q → is_set (env Lands) ≡ true → (k : Kind) → q.kind ≡ k
        → is_set told ≡ nat_le (2 ^ m.control.address) (takes_effect base (record q { kind = k })).pc
    takes q is now Jumps kind =
        away (ap (λ b. b && not (is_set (env EndsNow))) now ∙ ap not (leading.ends q is ∙ ap halts kind))
        ∙ ap (nat_le (2 ^ m.control.address)) (leading.goal q is (ap halts kind))
    takes q is now Calls kind =
        away (ap (λ b. b && not (is_set (env EndsNow))) now ∙ ap not (leading.ends q is ∙ ap halts kind))
        ∙ ap (nat_le (2 ^ m.control.address)) (leading.goal q is (ap halts kind))
    takes q is now Halts kind =
        on (ap (λ b. b && not (is_set (env EndsNow))) now ∙ ap not (leading.ends q is ∙ ap halts kind))
        ∙ ap (nat_le (2 ^ m.control.address)) (sym next_pc)

    at_time : (q : Pending) → p ≡ Some q → (b : Bool) → (q.time == s.cycle + 1) ≡ b
        → is_set told ≡ nat_le (2 ^ m.control.address) (if b then takes_effect base q else base).pc
    at_time q is true now =
        takes q is (leading.lands ∙ ap (λ o. option_map_or (λ (p : Pending). p.time == s.cycle + 1) o false) is ∙ now) q.kind refl
    at_time q is false not_now =
        stays (leading.lands ∙ ap (λ o. option_map_or (λ (p : Pending). p.time == s.cycle + 1) o false) is ∙ not_now)

    by : (o : Option Pending) → p ≡ o → is_set told ≡ nat_le (2 ^ m.control.address) (lands base o).pc
    by None is = stays (leading.lands ∙ ap (λ o. option_map_or (λ (p : Pending). p.time == s.cycle + 1) o false) is)
    by (Some q) is =
        at_time q is (q.time == s.cycle + 1) refl
        ∙ ap (λ (n : ℕ). nat_le (2 ^ m.control.address) (if q.time == n then takes_effect base q else base).pc) (sym cycle)
