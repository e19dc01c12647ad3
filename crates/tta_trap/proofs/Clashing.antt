-- Whether a result is due when another of its unit is: the circuit tells it as the cycle does.
use Rattle.std.proofs.Common.{◌≡◌, ℕ, ◌+◌, ◌<◌, ◌==◌, Bool, true, false, ◌&&◌, ◌||◌, List, [], ◌∷◌, length, filter, slice_get, Option, Some, None, refl, sym, ap, ◌∙◌, arith}
use Rattle.std.specs.Prelude.{is_some, if◌then◌else◌, nat_lt, option_and_then}
use Rattle.std.specs.Option.{option_map_or}
use Rattle.std.specs.List.{find, list_any, AllByRecursion}
use Rattle.std.proofs.lemmas.Option.{none-some}
use Rattle.std.proofs.lemmas.Bool.{eqb-true}
use Rattle.tta_arch.specs.declared.parts.Unit.{Unit as OpUnit}
use Rattle.tta_circuit.specs.Circuit.{Signal as OfSignal}
use Rattle.tta_hardware.specs.Cited.{Units, UnitOp, Machine, numbers, are_different, Both, Start, has_result, lacks_operand, Instruction, State, Result', is_due, due_at, word_due, clashes, bit, is_set, value}
use Rattle.tta_hardware.specs.Signals.{Signal as Named, Starts, IsDue, Due, Clashes, Watches}
use Rattle.tta_hardware.specs.Wires.{ops_of, is_coming, longest, never}
use Rattle.tta_hardware.specs.Stands.{Hardware, IsSettled, HasComing, Starting, start_in, coming_in, fresh_in}
use Rattle.tta_hardware.specs.Laws.{Meet, brought, written_after, started_in}
use Rattle.tta_hardware.proofs.Apart.{all_later}
use Rattle.tta_hardware.proofs.Bringing.{within_list}
use Rattle.tta_hardware.proofs.Chained.{set_bit, some_if}
use Rattle.tta_hardware.proofs.Goings.{found_not}
use Rattle.tta_hardware.proofs.Serving.{apart}
use Rattle.tta_hardware.proofs.Single.{IsOffered, all_offered, found_all, first_of_unit}
use Rattle.tta_hardware.proofs.Started.{starts_alike}
use Rattle.tta_hardware.proofs.Starting.{find_passes}
use Rattle.tta_hardware.proofs.Timed.{none_by, some_by}
use Rattle.tta_trap.specs.Watches.{clashing}
use Rattle.tta_trap.specs.Tells.{IsWatched}
use Rattle.tta_trap.proofs.Tests.{any_set, any_finds, any_filter, any_range, some_range, all_fail}

-- ---- by units

-- a test of some operation is one of a unit's, where no two are of one unit
by_units : (q : Start → Bool) (n : ℕ) (ts : List Start) → are_different (λ a b. a.unit == b.unit) ts ≡ true
    → AllByRecursion (λ t. t.unit < n) ts → list_any q ts ≡ list_any (λ unit. option_map_or q (start_in unit ts) false) (numbers n)
by_units q n ts apart within = by (find q ts) refl where
  fails : list_any q ts ≡ false → (unit : ℕ) → (o : Option Start) → start_in unit ts ≡ o → option_map_or q o false ≡ false
  fails none unit None is = refl
  fails none unit (Some t) is = found_not (λ t. t.unit == unit) q ts t is none

  by : (o : Option Start) → find q ts ≡ o
      → list_any q ts ≡ list_any (λ unit. option_map_or q (start_in unit ts) false) (numbers n)
  by None is =
      let none : list_any q ts ≡ false = any_finds q ts ∙ ap is_some is in
      none ∙ sym (all_fail (λ unit. option_map_or q (start_in unit ts) false) 0 n
      (λ unit least below. fails none unit (start_in unit ts) refl))
  by (Some t) is =
      let less = found_all (λ (t : Start). t.unit < n) q ts t is within in
      any_finds q ts ∙ ap is_some is
      ∙ sym (some_range (λ unit. option_map_or q (start_in unit ts) false) 0 n t.unit (omega arith) (omega (arith, less))
      (ap (λ o. option_map_or q o false) (first_of_unit q ts t apart is) ∙ find_passes q ts t is))

-- operations that are offered are of units that there are
unit_of : (m : Machine) (t : Start) → IsOffered m t → t.unit < length m.units
unit_of m t o = by (slice_get m.units t.unit) refl o.there where
  by : (q : Option OpUnit) → slice_get m.units t.unit ≡ q → option_and_then (λ x. slice_get x.ops o.op) q ≡ Some t.does
      → t.unit < length m.units
  by None is at = absurd (none-some t.does at)
  by (Some x) is at = within_list m.units t.unit (ap is_some is)

all_units : (m : Machine) (ts : List Start) → AllByRecursion (IsOffered m) ts → AllByRecursion (λ t. t.unit < length m.units) ts
all_units m [] all = tt
all_units m (t ∷ ts) all = (unit_of m t all.0, all_units m ts all.1)

-- ---- results on their way

-- whether the circuit has one for so many cycles from now
pub coming_told : (u : Units) (m : Machine) (h : Hardware) (env : Named → ℕ) → IsSettled u m h env → (unit delay : ℕ)
    → is_set (value u h.memories env (is_coming m unit delay)) ≡ is_some (coming_in m h.words unit delay)
coming_told u m h env settled unit delay = by (nat_lt delay (longest m unit)) where
  by : (b : Bool) → is_set (value u h.memories env (if b then OfSignal (IsDue unit delay) else never))
      ≡ is_some (if b && is_set (h.words (IsDue unit delay))
      then Some (fresh_in m h.words unit (delay + 1) (h.words (Due unit delay))) else None)
  by true =
      ap is_set (settled.is_due unit delay)
      ∙ sym (some_if (is_set (h.words (IsDue unit delay))) (fresh_in m h.words unit (delay + 1) (h.words (Due unit delay))))
  by false = refl

-- and then one is due
pub some_due : (unit due : ℕ) (rs : List Result') → is_some (word_due (due_at unit due rs)) ≡ list_any (is_due unit due) rs
some_due unit due rs = by (due_at unit due rs) ∙ sym (any_finds (is_due unit due) rs) where
  by : (o : Option Result') → is_some (word_due o) ≡ is_some o
  by None = refl
  by (Some r) = refl

-- ---- what the circuit tells

module _ (u : Units) (m : Machine) (count : ℕ) (h : Hardware) (env : Named → ℕ) (s : State) (i : Instruction) (meet : Meet u m h env s i)
    (coming : HasComing m h.words s) (full : list_any lacks_operand (started_in m s i) ≡ false) (watched : IsWatched u m count h env) where
  abbrev ts : List Start
  ts = started_in m s i

  -- whether the result of an operation shows before the longest latency, and then another does
  abbrev meets : ℕ → UnitOp → Bool
  meets unit o = is_set (value u h.memories env (is_coming m unit o.latency))

  abbrev early : ℕ → UnitOp → Bool
  early unit o = has_result o.op && nat_lt o.latency (longest m unit)

  starts_one : (unit : ℕ) → is_set (value u h.memories env (clashing m unit))
      ≡ is_some (find (λ o. is_set (env (Starts unit o.0))) (filter (λ o. early unit o.1 && meets unit o.1) (ops_of m unit)))
  starts_one unit =
      any_set u h.memories env (λ (o : ℕ × UnitOp). Both (OfSignal (Starts unit o.0)) (is_coming m unit o.1.latency))
      (filter (λ o. early unit o.1) (ops_of m unit))
      ∙ any_bits (filter (λ o. early unit o.1) (ops_of m unit))
      ∙ any_filter (λ (o : ℕ × UnitOp). early unit o.1) (λ o. is_set (env (Starts unit o.0))) (λ o. meets unit o.1) (ops_of m unit)
      ∙ any_finds (λ (o : ℕ × UnitOp). is_set (env (Starts unit o.0))) (filter (λ o. early unit o.1 && meets unit o.1) (ops_of m unit))
    where
      any_bits : (os : List (ℕ × UnitOp)) → list_any (λ o. is_set (bit (is_set (env (Starts unit o.0)) && meets unit o.1))) os
          ≡ list_any (λ o. is_set (env (Starts unit o.0)) && meets unit o.1) os
      any_bits [] = refl
      any_bits (o ∷ os) =
          ap (λ b. b || list_any (λ o. is_set (bit (is_set (env (Starts unit o.0)) && meets unit o.1))) os)
          (set_bit (is_set (env (Starts unit o.0)) && meets unit o.1))
          ∙ ap (λ b. (is_set (env (Starts unit o.0)) && meets unit o.1) || b) (any_bits os)

  -- an operation clashes so
  met : (unit : ℕ) → unit < length m.units → (t : Start) → start_in unit ts ≡ Some t
      → (early unit t.does && meets unit t.does) ≡ clashes s t
  met unit there t is = by (has_result t.does.op) refl where
    same : t.unit ≡ unit
    same = eqb-true t.unit unit (find_passes (λ t. t.unit == unit) ts t is)

    later : has_result t.does.op ≡ true → 0 < t.does.latency
    later = found_all (λ (t : Start). has_result t.does.op ≡ true → 0 < t.does.latency) (λ t. t.unit == unit) ts t is
        (all_later m meet.rules (written_after m s i) (brought m s i))

    here : is_some (coming_in m h.words unit t.does.latency)
        ≡ (nat_lt t.does.latency (longest m unit) && is_some (coming_in m h.words unit t.does.latency))
    here = at (nat_lt t.does.latency (longest m unit)) where
      at : (b : Bool)
          → is_some (if b && is_set (h.words (IsDue unit t.does.latency))
          then Some (fresh_in m h.words unit (t.does.latency + 1) (h.words (Due unit t.does.latency))) else None)
          ≡ (b && is_some (if b && is_set (h.words (IsDue unit t.does.latency))
          then Some (fresh_in m h.words unit (t.does.latency + 1) (h.words (Due unit t.does.latency))) else None))
      at true = refl
      at false = refl

    by : (b : Bool) → has_result t.does.op ≡ b
        → ((b && nat_lt t.does.latency (longest m unit)) && meets unit t.does)
        ≡ (b && list_any (λ r. r.unit == t.unit && r.due == s.cycle + t.does.latency) s.started)
    by false has = refl
    by true has =
        ap (λ b. nat_lt t.does.latency (longest m unit) && b) (coming_told u m h env meet.settled unit t.does.latency)
        ∙ sym here
        ∙ ap is_some (coming unit t.does.latency there (later has)) ∙ some_due unit (s.cycle + t.does.latency) s.started
        ∙ ap (λ n. list_any (λ r. r.unit == n && r.due == s.cycle + t.does.latency) s.started) (sym same)

  unit_told : (unit : ℕ) → unit < length m.units
      → is_set (env (Watches (Clashes unit))) ≡ option_map_or (clashes s) (start_in unit ts) false
  unit_told unit there =
      ap is_set (watched.clashes unit there) ∙ starts_one unit
      ∙ by (start_in unit ts) refl (starts_alike u m h env s i meet full unit there)
    where
      by : (o : Option Start) → start_in unit ts ≡ o → Starting m env unit o
          → is_some (find (λ o. is_set (env (Starts unit o.0))) (filter (λ o. early unit o.1 && meets unit o.1) (ops_of m unit)))
          ≡ option_map_or (clashes s) o false
      by None is none = ap is_some (none_by m env unit (λ o. early unit o.1 && meets unit o.1) none)
      by (Some t) is one =
          ap is_some (some_by m env unit (λ o. early unit o.1 && meets unit o.1) t one)
          ∙ some_if (early unit t.does && meets unit t.does) (one.op, t.does) ∙ met unit there t is

  -- whether a result is due when another is
  pub clashes_told : list_any (λ unit. is_set (env (Watches (Clashes unit)))) (numbers (length m.units)) ≡ list_any (clashes s) ts
  clashes_told =
      any_range (λ unit. is_set (env (Watches (Clashes unit)))) (λ unit. option_map_or (clashes s) (start_in unit ts) false) 0
      (length m.units) (λ unit least below. unit_told unit (omega (arith, below)))
      ∙ sym (by_units (clashes s) (length m.units) ts (apart u m h env s i meet full)
      (all_units m ts (all_offered m (written_after m s i) (brought m s i))))
