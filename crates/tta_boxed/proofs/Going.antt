-- A clock that carries an instruction out: what both circuits make of what is due.
use Rattle.std.proofs.Common.{◌≡◌, ℕ, ◌+◌, ◌<◌, ◌==◌, Bool, true, false, ◌&&◌, ◌||◌, nat_lt, Option, Some, refl, sym, ap, ◌∙◌}
use Rattle.std.specs.Prelude.{if◌then◌else◌, is_some}
use Rattle.std.specs.Option.{option_map_or}
use Rattle.std.specs.List.{find, AllByRecursion}
use Rattle.std.proofs.lemmas.Bool.{false≢true, or_right, false_from_ne_true}
use Rattle.tta_boxed.specs.Cited.{Units, Machine, UnitOp, Set, op_at, Circuit, Const, Signal, is_set, Store, IsReset, Operand, Trigger, Starts, Goes, IsDue, Due, IsFrom, HasBegun, Boxes, Expression, Hardware, longest, begins, made, coming, is_coming, fresh, loads, timed, result_of, ops_of, never, nothing}
use Rattle.tta_circuit.specs.Meaning.{bit, value}
use Rattle.tta_arch.specs.Effects.{has_result}
use Rattle.tta_hardware.specs.Signals.{Signal as Named}
use Rattle.tta_hardware.specs.Wires.{read_word}
use Rattle.tta_hardware.specs.Registers.{becomes}
use Rattle.tta_hardware.proofs.Chained.{set_bit, any_found, first_found}
use Rattle.tta_hardware.proofs.OnlyThere.{kept_in, ops_there}
use Rattle.tta_boxed.specs.Boxed.{is_left, kept_result, kept_made, is_picked, was_from, from_next}
use Rattle.tta_boxed.specs.Theorem.{given_to}
use Rattle.tta_boxed.proofs.Early.{early, made_early, begins_early}
use Rattle.tta_boxed.proofs.Alike.{Same, value_early}
use Rattle.tta_boxed.proofs.Finding.{find_alike}
use Rattle.tta_boxed.proofs.Wholes.{IsWhole}
use Rattle.tta_boxed.proofs.Clock as clock

module _ (u : Units) (m : Machine) (leaves : ℕ → Bool) (d : Circuit Named Store) (w : IsWhole m d) (hc hd : Hardware)
    (inputs : Named → ℕ) (words : Same hc.words hd.words) (memories : (s : Store) → hc.memories s ≡ hd.memories s) where
  abbrev pub env : Named → ℕ
  env = clock.env u m leaves d w hc hd inputs words memories

  abbrev pub env' : Named → ℕ
  env' = clock.env' u m leaves d w hc hd inputs words memories

  abbrev pub after : Named → ℕ
  after = (clock.after u m leaves d w hc hd inputs words memories).words

  abbrev pub after' : Named → ℕ
  after' = (clock.after' u m leaves d w hc hd inputs words memories).words

  -- the word of an expression in both
  abbrev pub val : Expression → ℕ
  val e = value u hc.memories env e

  abbrev pub val' : Expression → ℕ
  val' e = value u hd.memories env' e

  pub same : (e : Expression) → early e ≡ true → val e ≡ val' e
  same e is = value_early u hc.memories hd.memories memories env env' (clock.signals u m leaves d w hc hd inputs words memories) e is

  pub signal_same : (n : Named) → early (Signal n) ≡ true → env n ≡ env' n
  signal_same n is = same (Signal n) is

  -- ---- what starts

  -- the first operation that starts, of those with a latency
  abbrev pub started : (unit latency : ℕ) → Option (ℕ × UnitOp)
  started unit latency = find (λ (x : ℕ × UnitOp). is_set (env (Starts unit x.0))) (timed m unit latency)

  pub timed_there : (unit latency : ℕ) → AllByRecursion
      (λ (x : ℕ × UnitOp). (op_at m unit x.0 ≡ Some x.1) × ((has_result x.1.op && x.1.latency == latency) ≡ true)) (timed m unit latency)
  timed_there unit latency =
      kept_in (λ (x : ℕ × UnitOp). op_at m unit x.0 ≡ Some x.1) (λ x. has_result x.1.op && x.1.latency == latency) (ops_of m unit)
      (ops_there m unit)

  pub begins_is : (unit latency : ℕ) → is_set (val (begins m unit latency)) ≡ is_some (started unit latency)
  begins_is unit latency = any_found u hc.memories env (λ (o : ℕ × UnitOp). Signal (Starts unit o.0)) (timed m unit latency)

  pub begins_is' : (unit latency : ℕ) → is_set (val' (begins m unit latency)) ≡ is_some (started unit latency)
  begins_is' unit latency = ap is_set (sym (same (begins m unit latency) (begins_early m unit latency))) ∙ begins_is unit latency

  pub kept_is : (unit latency : ℕ) → val (kept_made m leaves unit latency)
      ≡ option_map_or (λ x. val (kept_result m leaves unit x.1)) (started unit latency) 0
  kept_is unit latency =
      first_found u hc.memories env (λ (o : ℕ × UnitOp). Signal (Starts unit o.0)) (λ o. kept_result m leaves unit o.1)
      (timed m unit latency) nothing

  pub made_is' : (unit latency : ℕ) → val' (made m unit latency)
      ≡ option_map_or (λ x. val (result_of m unit x.1)) (started unit latency) 0
  made_is' unit latency =
      sym (same (made m unit latency) (made_early m unit latency))
      ∙ first_found u hc.memories env (λ (o : ℕ × UnitOp). Signal (Starts unit o.0)) (λ o. result_of m unit o.1)
      (timed m unit latency) nothing

  pub picked_is : (unit op latency : ℕ) → val (is_picked m leaves unit op latency)
      ≡ option_map_or (λ x. if x.0 == op then 1 else 0) (started unit latency) 0
  picked_is unit op latency =
      first_found u hc.memories env (λ (o : ℕ × UnitOp). Signal (Starts unit o.0)) (λ o. Const 1 (if o.0 == op then 1 else 0))
      (timed m unit latency) never

  -- what an operation of two words makes
  pub result_is : (unit id : ℕ) (o : UnitOp) → o.op ≡ Set (record { 0 = id })
      → val (result_of m unit o) ≡ u.value id (given_to unit o env).0 (given_to unit o env).1
  result_is unit id o is =
      ap (λ p. val (result_of m unit (record o { op = p }))) is
      ∙ ap (λ z. u.value id z (env (Trigger unit))) (operand (o.arity == 2))
    where
      operand : (b : Bool) → val (if b then Signal (Operand unit) else nothing) ≡ (if b then env (Operand unit) else 0)
      operand true = refl
      operand false = refl

  -- ---- what has begun

  -- the first load that began at the clock before, of those with a latency
  abbrev pub begun : (unit latency : ℕ) → Option (ℕ × UnitOp)
  begun unit latency = find (λ (x : ℕ × UnitOp). is_set (env (HasBegun unit x.0))) (loads m unit latency)

  pub fresh_is : (unit latency : ℕ) (e : Expression) → val (fresh m unit latency e)
      ≡ option_map_or (λ x. val (read_word unit x.0)) (begun unit latency) (val e)
  fresh_is unit latency e =
      first_found u hc.memories env (λ (o : ℕ × UnitOp). Signal (HasBegun unit o.0)) (λ o. read_word unit o.0) (loads m unit latency) e

  pub fresh_is' : (unit latency : ℕ) (e : Expression) → val' (fresh m unit latency e)
      ≡ option_map_or (λ x. val' (read_word unit x.0)) (begun unit latency) (val' e)
  fresh_is' unit latency e =
      first_found u hd.memories env' (λ (o : ℕ × UnitOp). Signal (HasBegun unit o.0)) (λ o. read_word unit o.0) (loads m unit latency) e
      ∙ ap (λ o. option_map_or (λ (x : ℕ × UnitOp). val' (read_word unit x.0)) o (val' e))
      (find_alike (λ (x : ℕ × UnitOp). is_set (env' (HasBegun unit x.0))) (λ x. is_set (env (HasBegun unit x.0))) (loads m unit latency)
      (λ x. ap is_set (sym (signal_same (HasBegun unit x.0) refl))))

  pub was_is : (unit op delay : ℕ) → val (was_from m leaves unit op delay)
      ≡ option_map_or (λ x. 0) (begun unit (delay + 1)) (env (Boxes (IsFrom unit op delay)))
  was_is unit op delay =
      first_found u hc.memories env (λ (o : ℕ × UnitOp). Signal (HasBegun unit o.0)) (λ o. never) (loads m unit (delay + 1))
      (Signal (Boxes (IsFrom unit op delay)))

  -- ---- what registers become

  module _ (goes : is_set (env Goes) ≡ true) where
    quiet : is_set (env IsReset) ≡ false
    quiet =
        false_from_ne_true (is_set (env IsReset)) (λ is. false≢true
        (sym (clock.stopped u m leaves d w hc hd inputs words memories
        (ap is_set (sym (clock.reset_held u m leaves d w hc hd inputs words memories)) ∙ is)) ∙ goes))

    taking : is_set (bit (is_set (env IsReset) || is_set (env Goes))) ≡ true
    taking = set_bit (is_set (env IsReset) || is_set (env Goes)) ∙ or_right (is_set (env IsReset)) (is_set (env Goes)) goes

    pub due_now : (unit delay : ℕ) → 0 < delay → delay < longest m unit → after (Due unit delay)
        ≡ (if is_set (val (begins m unit (delay + 1))) then val (kept_made m leaves unit (delay + 1)) else val (coming m unit (delay + 1)))
    due_now unit delay some soon =
        clock.due_next u m leaves d w hc hd inputs words memories unit delay some soon
        ∙ ap (λ b. if b
        then (if is_set (val (begins m unit (delay + 1)))
        then val (kept_made m leaves unit (delay + 1)) else val (coming m unit (delay + 1)))
        else hc.words (Due unit delay)) goes

    pub due_now' : (unit delay : ℕ) → 0 < delay → delay < longest m unit → after' (Due unit delay)
        ≡ (if is_set (val' (begins m unit (delay + 1))) then val' (made m unit (delay + 1)) else val' (coming m unit (delay + 1)))
    due_now' unit delay some soon =
        clock.due_next' u m leaves d w hc hd inputs words memories unit delay some soon
        ∙ ap (λ b. if b then val' (becomes m (Due unit delay)) else hd.words (Due unit delay))
        (ap is_set (sym (signal_same Goes refl)) ∙ goes)

    -- what a register becomes that a clock sets that begins anew
    cleared : (x y old : ℕ)
        → (if is_set (bit (is_set (env IsReset) || is_set (env Goes))) then (if is_set (env IsReset) then x else y) else old)
        ≡ y
    cleared x y old =
        ap (λ b. if b then (if is_set (env IsReset) then x else y) else old) taking ∙ ap (λ b. if b then x else y) quiet

    pub is_due_now : (unit delay : ℕ) → 0 < delay → delay < longest m unit
        → is_set (after (IsDue unit delay)) ≡ (is_some (started unit (delay + 1)) || is_set (val (is_coming m unit (delay + 1))))
    is_due_now unit delay some soon =
        ap is_set (clock.is_due_next u m leaves d w hc hd inputs words memories unit delay some soon
        ∙ cleared 0 (bit (is_set (val (begins m unit (delay + 1))) || is_set (val (is_coming m unit (delay + 1)))))
        (hc.words (IsDue unit delay)))
        ∙ set_bit (is_set (val (begins m unit (delay + 1))) || is_set (val (is_coming m unit (delay + 1))))
        ∙ ap (λ b. b || is_set (val (is_coming m unit (delay + 1)))) (begins_is unit (delay + 1))

    pub from_now : (unit op : ℕ) (o : UnitOp) → op_at m unit op ≡ Some o → is_left m leaves o ≡ true → (delay : ℕ) → 0 < delay
        → delay < o.latency
        → after (Boxes (IsFrom unit op delay))
        ≡ (if is_some (started unit (delay + 1))
        then val (if o.latency == delay + 1 then is_picked m leaves unit op o.latency else never)
        else val (if nat_lt (delay + 1) o.latency then was_from m leaves unit op (delay + 1) else never))
    from_now unit op o at left delay some less =
        clock.from_next_is u m leaves d w hc hd inputs words memories unit op o at left delay some less
        ∙ cleared 0 (val (from_next m leaves unit op o.latency delay)) (hc.words (Boxes (IsFrom unit op delay)))
        ∙ ap (λ b. if b
        then val (if o.latency == delay + 1 then is_picked m leaves unit op o.latency else never)
        else val (if nat_lt (delay + 1) o.latency then was_from m leaves unit op (delay + 1) else never)) (begins_is unit (delay + 1))
