-- The words of loads that began at the clock before.
use Rattle.std.proofs.Common.{◌≡◌, ℕ, suc, ◌+◌, ◌==◌, Bool, true, false, ◌&&◌, List, [], ◌∷◌, filter, Option, Some, None, slice_get, refl, sym, ap, ◌∙◌, arith}
use Rattle.std.specs.Prelude.{if◌then◌else◌, option_and_then}
use Rattle.std.specs.Option.{option_map_or}
use Rattle.std.specs.List.{find, enumerate_from}
use Rattle.std.proofs.lemmas.Bool.{and_parts}
use Rattle.tta_hardware.specs.Cited.{Units, Op, Ldw, Stw, Ldf, Stf, Out, Take, Set, UnitOp, Machine, op_at, has_result, is_set, value}
use Rattle.tta_arch.specs.declared.parts.Unit.{Unit as OpUnit}
use Rattle.tta_circuit.specs.Circuit.{Signal as OfSignal}
use Rattle.tta_hardware.specs.Signals.{Signal as Named, HasBegun, Raw, IsInside, Starts, Expression}
use Rattle.tta_hardware.specs.Wires.{is_load, loads, read_word, fresh}
use Rattle.tta_hardware.specs.Stands.{Hardware, IsSettled, read_in, fresh_of, fresh_in}
use Rattle.tta_hardware.proofs.Chained.{first_found}

-- what shows no result is no load
pub no_load : (o : Op) (b : Bool) → (has_result o && b) ≡ false → (is_load o && b) ≡ false
no_load Ldw b is = is
no_load Stw b is = refl
no_load Ldf b is = is
no_load Stf b is = refl
no_load Out b is = refl
no_load Take b is = refl
no_load (Set id) b is = refl

-- ---- two circuits with the same words

module _ (f g : Named → ℕ) (unit : ℕ) (begun : (op : ℕ) → f (HasBegun unit op) ≡ g (HasBegun unit op))
    (raw : (op : ℕ) → f (Raw unit op) ≡ g (Raw unit op))
    (inside : (op : ℕ) → f (IsInside unit op) ≡ g (IsInside unit op)) where
  same_read : (op : ℕ) → read_in f unit op ≡ read_in g unit op
  same_read op = ap (λ n. if is_set n then f (Raw unit op) else 0) (inside op)
      ∙ ap (λ n. if is_set (g (IsInside unit op)) then n else 0) (raw op)

  pub same_fresh : (os : List (ℕ × UnitOp)) (other : ℕ) → fresh_of f unit os other ≡ fresh_of g unit os other
  same_fresh [] other = refl
  same_fresh (o ∷ os) other =
      ap (λ n. option_map_or (λ o. read_in f unit o.0) (if is_set n then Some o else find (λ o. is_set (f (HasBegun unit o.0))) os) other)
      (begun o.0)
      ∙ by (is_set (g (HasBegun unit o.0))) (same_fresh os other)
    where
      by : (b : Bool) → fresh_of f unit os other ≡ fresh_of g unit os other
          → option_map_or (λ o. read_in f unit o.0) (if b then Some o else find (λ o. is_set (f (HasBegun unit o.0))) os) other
          ≡ option_map_or (λ o. read_in g unit o.0) (if b then Some o else find (λ o. is_set (g (HasBegun unit o.0))) os) other
      by true rest = same_read o.0
      by false rest = rest

-- the circuit's own word
pub fresh_value : (u : Units) (m : Machine) (h : Hardware) (env : Named → ℕ) → IsSettled u m h env → (unit latency : ℕ) (e : Expression)
    → value u h.memories env (fresh m unit latency e) ≡ fresh_in m h.words unit latency (value u h.memories env e)
fresh_value u m h env settled unit latency e =
    first_found u h.memories env (λ (o : ℕ × UnitOp). OfSignal (HasBegun unit o.0)) (λ o. read_word unit o.0) (loads m unit latency) e
    ∙ same_fresh env h.words unit (settled.has_begun unit) (settled.raw unit) (settled.inside unit) (loads m unit latency)
    (value u h.memories env e)

-- ---- what began is what started

-- two tests that agree on what a filter lets through
filtered_same : {A : Type 0} (p : ℕ × A → Bool) (q r : ℕ → Bool) (xs : List A) (j : ℕ)
    → ((i : ℕ) (x : A) → slice_get xs i ≡ Some x → p (j + i, x) ≡ true → q (j + i) ≡ r (j + i))
    → find (λ o. q o.0) (filter p (enumerate_from j xs)) ≡ find (λ o. r o.0) (filter p (enumerate_from j xs))
filtered_same p q r [] j same = refl
filtered_same p q r (x ∷ xs) j same =
    by (p (j, x)) refl (filtered_same p q r xs (j + 1) (λ i y at is.
    let e : j + 1 + i ≡ j + suc i = omega arith in
    ap q e ∙ same (suc i) y at (ap (λ n. p (n, y)) (sym e) ∙ is) ∙ ap r (sym e)))
  where
    here : p (j, x) ≡ true → q j ≡ r j
    here is = let e : j ≡ j + 0 = omega arith in ap q e ∙ same 0 x refl (ap (λ n. p (n, x)) (sym e) ∙ is) ∙ ap r (sym e)

    by : (b : Bool) → p (j, x) ≡ b → find (λ o. q o.0) (filter p (enumerate_from (j + 1) xs))
        ≡ find (λ o. r o.0) (filter p (enumerate_from (j + 1) xs))
        → find (λ o. q o.0) (filter p (enumerate_from j (x ∷ xs))) ≡ find (λ o. r o.0) (filter p (enumerate_from j (x ∷ xs)))
    by true is rest =
        rw is (ap (λ b. if b then Some (j, x) else find (λ o. q o.0) (filter p (enumerate_from (j + 1) xs))) (here is)
        ∙ ap (λ o. if r j then Some (j, x) else o) rest)
    by false is rest = rw is rest

pub as_starts : (m : Machine) (env after : Named → ℕ) (unit latency : ℕ)
    → ((op : ℕ) (o : UnitOp) → op_at m unit op ≡ Some o → is_load o.op ≡ true → after (HasBegun unit op) ≡ env (Starts unit op))
    → find (λ o. is_set (after (HasBegun unit o.0))) (loads m unit latency)
    ≡ find (λ o. is_set (env (Starts unit o.0))) (loads m unit latency)
as_starts m env after unit latency begun = by (slice_get m.units unit) refl where
  by : (o : Option OpUnit) → slice_get m.units unit ≡ o
      → find (λ o. is_set (after (HasBegun unit o.0)))
      (filter (λ o. is_load o.1.op && o.1.latency == latency) (option_map_or (λ u. enumerate_from 0 u.ops) o []))
      ≡ find (λ o. is_set (env (Starts unit o.0)))
      (filter (λ o. is_load o.1.op && o.1.latency == latency) (option_map_or (λ u. enumerate_from 0 u.ops) o []))
  by None is = refl
  by (Some x) is =
      filtered_same (λ o. is_load o.1.op && o.1.latency == latency) (λ k. is_set (after (HasBegun unit k)))
      (λ k. is_set (env (Starts unit k))) x.ops 0 (λ i y at passes.
      let e : 0 + i ≡ i = omega arith in
      ap (λ k. is_set (after (HasBegun unit k))) e
      ∙ ap is_set
      (begun i y (ap (option_and_then (λ u. slice_get u.ops i)) is ∙ at) (and_parts (is_load y.op) (y.latency == latency) passes).0)
      ∙ ap (λ k. is_set (env (Starts unit k))) (sym e))
