-- Which operation of a unit starts whose result shows after so many cycles, and the word that it shows.
use Rattle.std.proofs.Common.{◌≡◌, ℕ, zero, suc, ◌+◌, ◌≤◌, ◌==◌, Bool, true, false, ◌&&◌, List, [], ◌∷◌, filter, Option, Some, None, slice_get, refl, sym, ap, ◌∙◌, subst, arith}
use Rattle.std.specs.Prelude.{if◌then◌else◌, option_and_then, max}
use Rattle.std.specs.Option.{option_map_or}
use Rattle.std.specs.List.{find, enumerate_from}
use Rattle.std.proofs.lemmas.Option.{none-some, same_Some}
use Rattle.std.proofs.lemmas.Bool.{eq-eqb, ne_eqb}
use Rattle.tta_hardware.specs.Cited.{UnitOp, Machine, Start, op_at, has_result, Result', word_due, is_set}
use Rattle.tta_arch.specs.declared.parts.Unit.{Unit as OpUnit}
use Rattle.tta_hardware.specs.Signals.{Signal as Named, Starts}
use Rattle.tta_hardware.specs.Wires.{ops_of, timed, longest_in, longest}
use Rattle.tta_hardware.specs.Stands.{StartsOne, Starting}

-- ---- one operation among those that pass a test

module _ {A : Type 0} (p : ℕ × A → Bool) (starts : ℕ → Bool) where
  -- none is found where none starts
  pub none_found : (xs : List A) (j : ℕ) → ((i : ℕ) (x : A) → slice_get xs i ≡ Some x → starts (j + i) ≡ false)
      → find (λ o. starts o.0) (filter p (enumerate_from j xs)) ≡ None
  none_found [] j none = refl
  none_found (x ∷ xs) j none =
      by (p (j, x)) refl
      (none_found xs (j + 1) (λ i y at. let e : j + 1 + i ≡ j + suc i = omega arith in ap starts e ∙ none (suc i) y at)) where
        here : starts j ≡ false
        here = let e : j ≡ j + 0 = omega arith in ap starts e ∙ none 0 x refl

        by : (b : Bool) → p (j, x) ≡ b → find (λ o. starts o.0) (filter p (enumerate_from (j + 1) xs)) ≡ None
            → find (λ o. starts o.0) (filter p (enumerate_from j (x ∷ xs))) ≡ None
        by true is rest = rw (is, here) rest
        by false is rest = rw is rest

  -- the one that starts is found, if it passes
  pub one_found : (xs : List A) (j k op : ℕ) (d : A) → j + k ≡ op → slice_get xs k ≡ Some d
      → ((i : ℕ) (x : A) → slice_get xs i ≡ Some x → starts (j + i) ≡ (j + i == op))
      → find (λ o. starts o.0) (filter p (enumerate_from j xs)) ≡ (if p (op, d) then Some (op, d) else None)
  one_found [] j k op d e at one = absurd (none-some d at)
  one_found (x ∷ xs) j zero op d e at one =
      subst (λ n. find (λ o. starts o.0) (filter p (enumerate_from j (x ∷ xs))) ≡ (if p (n, d) then Some (n, d) else None)) op_is
      (subst (λ y. find (λ o. starts o.0) (filter p (enumerate_from j (x ∷ xs))) ≡ (if p (j, y) then Some (j, y) else None))
      (same_Some x d at) (by (p (j, x)) refl)) where
        op_is : j ≡ op
        op_is = omega (arith, e)

        here : starts j ≡ true
        here = let z : j ≡ j + 0 = omega arith in ap starts z ∙ one 0 x refl ∙ eq-eqb (j + 0) op e

        rest : find (λ o. starts o.0) (filter p (enumerate_from (j + 1) xs)) ≡ None
        rest = none_found xs (j + 1) (λ i y at'.
            let z : j + 1 + i ≡ j + suc i = omega arith in
            ap starts z ∙ one (suc i) y at' ∙ ne_eqb (j + suc i) op (λ same. omega (arith, same, e)))

        by : (b : Bool) → p (j, x) ≡ b → find (λ o. starts o.0) (filter p (enumerate_from j (x ∷ xs)))
            ≡ (if p (j, x) then Some (j, x) else None)
        by true is = rw (is, here) refl
        by false is = rw is rest
  one_found (x ∷ xs) j (suc k) op d e at one =
      by (p (j, x)) refl (one_found xs (j + 1) k op d (omega (arith, e)) at (λ i y at'.
      let z : j + 1 + i ≡ j + suc i = omega arith in ap starts z ∙ one (suc i) y at' ∙ ap (λ (n : ℕ). n == op) (sym z)))
    where
      here : starts j ≡ false
      here = let z : j ≡ j + 0 = omega arith in ap starts z ∙ one 0 x refl ∙ ne_eqb (j + 0) op (λ same. omega (arith, same, e))

      by : (b : Bool) → p (j, x) ≡ b → find (λ o. starts o.0) (filter p (enumerate_from (j + 1) xs))
          ≡ (if p (op, d) then Some (op, d) else None)
          → find (λ o. starts o.0) (filter p (enumerate_from j (x ∷ xs))) ≡ (if p (op, d) then Some (op, d) else None)
      by true is rest = rw (is, here) rest
      by false is rest = rw is rest

-- ---- the operations of a unit

-- the one that a unit starts, if its result shows after so many cycles
abbrev pub one_timed : (op latency : ℕ) → UnitOp → Option (ℕ × UnitOp)
one_timed op latency o = if has_result o.op && o.latency == latency then Some (op, o) else None

module _ (m : Machine) (env : Named → ℕ) (unit : ℕ) (p : ℕ × UnitOp → Bool) where
  -- none is found where none starts
  pub none_by : Starting m env unit None → find (λ o. is_set (env (Starts unit o.0))) (filter p (ops_of m unit)) ≡ None
  none_by none = by (slice_get m.units unit) refl where
    by : (o : Option OpUnit) → slice_get m.units unit ≡ o
        → find (λ o. is_set (env (Starts unit o.0))) (filter p (option_map_or (λ u. enumerate_from 0 u.ops) o [])) ≡ None
    by None is = refl
    by (Some u) is =
        none_found p (λ k. is_set (env (Starts unit k))) u.ops 0
        (λ i x at. let e : 0 + i ≡ i = omega arith in ap (λ k. is_set (env (Starts unit k))) e
        ∙ none i x (ap (option_and_then (λ u. slice_get u.ops i)) is ∙ at))

  -- and the one that starts is, if it passes
  pub some_by : (t : Start) → (s : StartsOne m env unit t)
      → find (λ o. is_set (env (Starts unit o.0))) (filter p (ops_of m unit)) ≡ (if p (s.op, t.does) then Some (s.op, t.does) else None)
  some_by t s = by (slice_get m.units unit) refl where
    by : (o : Option OpUnit) → slice_get m.units unit ≡ o
        → find (λ o. is_set (env (Starts unit o.0))) (filter p (option_map_or (λ u. enumerate_from 0 u.ops) o []))
        ≡ (if p (s.op, t.does) then Some (s.op, t.does) else None)
    by None is = absurd (none-some t.does (sym (ap (option_and_then (λ u. slice_get u.ops s.op)) is) ∙ s.there))
    by (Some u) is =
        one_found p (λ k. is_set (env (Starts unit k))) u.ops 0 s.op s.op t.does (omega arith)
        (sym (ap (option_and_then (λ u. slice_get u.ops s.op)) is) ∙ s.there)
        (λ i x at.
        let e : 0 + i ≡ i = omega arith in
        ap (λ k. is_set (env (Starts unit k))) e ∙ s.one i x (ap (option_and_then (λ u. slice_get u.ops i)) is ∙ at)
        ∙ ap (λ (k : ℕ). k == s.op) (sym e))

module _ (m : Machine) (env : Named → ℕ) (unit latency : ℕ) where
  abbrev pub found : Option (ℕ × UnitOp)
  found = find (λ o. is_set (env (Starts unit o.0))) (timed m unit latency)

  abbrev pub shows : ℕ × UnitOp → Bool
  shows o = has_result o.1.op && o.1.latency == latency

  pub none_timed : Starting m env unit None → found ≡ None
  none_timed none = none_by m env unit shows none

  pub some_timed : (t : Start) → (s : StartsOne m env unit t) → found ≡ one_timed s.op latency t.does
  some_timed t s = some_by m env unit shows t s

-- ---- the longest latency

pub longest_most : (ops : List UnitOp) (k : ℕ) (o : UnitOp) → slice_get ops k ≡ Some o → o.latency ≤ longest_in ops
longest_most [] k o at = absurd (none-some o at)
longest_most (x ∷ ops) zero o at = let same : x ≡ o = same_Some x o at in
    subst (λ y. y.latency ≤ longest_in (x ∷ ops)) same (most x.latency (longest_in ops)) where
      most : (a b : ℕ) → a ≤ max a b
      most a b = grind arith
longest_most (x ∷ ops) (suc k) o at = more o.latency x.latency (longest_in ops) (longest_most ops k o at) where
  more : (a b c : ℕ) → a ≤ c → a ≤ max b c
  more a b c le = grind (arith, le)

pub within_longest : (m : Machine) (unit op : ℕ) (o : UnitOp) → op_at m unit op ≡ Some o → o.latency ≤ longest m unit
within_longest m unit op o at = by (slice_get m.units unit) at where
  by : (q : Option OpUnit) → option_and_then (λ u. slice_get u.ops op) q ≡ Some o → o.latency ≤ option_map_or (λ u. longest_in u.ops) q 0
  by None at = absurd (none-some o at)
  by (Some u) at = longest_most u.ops op o at

-- ---- results that are none

-- a result that is none was not due
pub not_due : (c : Bool) (r : Result') → word_due (if c then Some r else None) ≡ None → c ≡ false
not_due true r is = absurd (none-some r.value (sym is))
not_due false r is = refl

-- a port shows the word of the latest result
pub port_word : (o : Option Result') → option_map_or (λ r. Some r.value) o None ≡ word_due o
port_word None = refl
port_word (Some r) = refl
