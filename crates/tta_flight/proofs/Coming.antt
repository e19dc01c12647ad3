-- Which rings have to turn, after each call.
use Rattle.std.proofs.Common.{◌≡◌, ◌≢◌, ◌<◌, ◌≤◌, ◌+◌, ◌-◌, ℕ, zero, suc, true, false, length, None, Some, refl, ap, sym, ◌∙◌, arith}
use Rattle.std.specs.Prelude.{◌==◌, ◌||◌, is_some, nat_le, max}
use Rattle.std.proofs.lemmas.Bool.{eq-eqb, ne_eqb, true≢false}
use Rattle.std.proofs.Math.Bool.{or-true, or-false}
use Rattle.tta_flight.specs.Marked.{has}
use Rattle.tta_flight.specs.Rings.{Rings, turns_of, later_in, AreMoving, IsTurned}
use Rattle.tta_flight.proofs.Cells.{by_unit}

zero_by : (n : ℕ) → (0 < n → n ≡ 0) → n ≡ 0
zero_by zero zero_if = refl
zero_by (suc n) zero_if = zero_if (omega arith)

-- ---- a ring that turned

module _ (r new : Rings) (unit : ℕ) (moving : AreMoving r) (there : unit < length r.rings) (is : IsTurned unit r new)
    (turns_here : turns_of new unit ≡ turns_of r unit - 1) (turns_other : (u : ℕ) → u ≢ unit → turns_of new u ≡ turns_of r u)
    (has_other : (u : ℕ) → u ≢ unit → has new.moving u ≡ has r.moving u)
    (has_here : 0 < turns_of new unit → has new.moving unit ≡ has r.moving unit) (has_none : turns_of new unit ≡ 0 → has new.moving unit ≡ false) where
  empty_next : (d u : ℕ) → u < length r.rings → turns_of new u ≤ d → later_in new u d ≡ None
  empty_next d = by_unit unit (λ u. u < length r.rings → turns_of new u ≤ d → later_in new u d ≡ None)
      (λ had soon. is.later d ∙ moving.empty unit (d + 1) had (omega (arith, soon, turns_here)))
      (λ u other had soon. is.unit_apart u d had other ∙ moving.empty u d had (omega (arith, soon, turns_other u other)))

  still_next : (u : ℕ) → u < length r.rings → has new.moving u ≡ false → turns_of new u ≡ 0
  still_next = by_unit unit (λ u. u < length r.rings → has new.moving u ≡ false → turns_of new u ≡ 0)
      (λ had off. zero_by (turns_of new unit) (λ some. turns_here ∙ ap (λ n. n - 1) (moving.still unit had (sym (has_here some) ∙ off))))
      (λ u other had off. turns_other u other ∙ moving.still u had (sym (has_other u other) ∙ off))

  needed_at : (n : ℕ) → turns_of new unit ≡ n → has new.moving unit ≡ true → is_some (later_in new unit (n - 1)) ≡ true
  needed_at zero none on = absurd (true≢false (sym on ∙ has_none none))
  needed_at (suc n) some on =
      let before : turns_of r unit - 1 ≡ suc n - 1 + 1 = omega (arith, some, turns_here) in
      ap is_some (is.later (suc n - 1)) ∙ ap (λ k. is_some (later_in r unit k)) (sym before)
      ∙ moving.needed unit there (sym (has_here (omega (arith, some))) ∙ on)

  needed_next : (u : ℕ) → u < length r.rings → has new.moving u ≡ true → is_some (later_in new u (turns_of new u - 1)) ≡ true
  needed_next = by_unit unit (λ u. u < length r.rings → has new.moving u ≡ true → is_some (later_in new u (turns_of new u - 1)) ≡ true)
      (λ had on. needed_at (turns_of new unit) refl on)
      (λ u other had on. ap (λ n. is_some (later_in new u (n - 1))) (turns_other u other) ∙ ap is_some (is.unit_apart u (turns_of r u - 1) had other)
      ∙ moving.needed u had (sym (has_other u other) ∙ on))

  pub moving_turned : AreMoving new
  moving_turned = record {
    few = omega (arith, is.units, moving.few);
    empty = λ u d had soon. empty_next d u (omega (arith, had, is.units)) soon;
    still = λ u had off. still_next u (omega (arith, had, is.units)) off;
    needed = λ u had on. needed_next u (omega (arith, had, is.units)) on;
  }

-- ---- one more result

max_least : (a b d : ℕ) → max a b ≤ d → a ≤ d
max_least a b d most = grind (arith, most)

max_other : (a b d : ℕ) → max a b ≤ d → b ≤ d
max_other a b d most = grind (arith, most)

max_is : (a d : ℕ) → nat_le a (d + 1) ≡ true → max a (d + 1) - 1 ≡ d
max_is a d least = grind (arith, least)

greater : (a b : ℕ) → nat_le a b ≡ false → b < a
greater a b later = grind (arith, later)

max_was : (a b : ℕ) → nat_le a b ≡ false → max a b ≡ a
max_was a b later = grind (arith, later)

-- A result is expected after so many cycles past the next one: all else that is due later is as before.
pub record IsExpected (unit past value : ℕ) (old new : Rings) : Type 0 where
  pub units : length new.rings ≡ length old.rings
  pub here : later_in new unit past ≡ Some value
  pub unit_apart : (u p : ℕ) → u < length old.rings → u ≢ unit → later_in new u p ≡ later_in old u p
  pub past_apart : (p : ℕ) → p ≢ past → later_in new unit p ≡ later_in old unit p

module _ (r new : Rings) (unit past value : ℕ) (moving : AreMoving r) (there : unit < length r.rings) (is : IsExpected unit past value r new)
    (turns_here : turns_of new unit ≡ max (turns_of r unit) (past + 1)) (turns_other : (u : ℕ) → u ≢ unit → turns_of new u ≡ turns_of r u)
    (sets : (u : ℕ) → has new.moving u ≡ (has r.moving u || unit == u)) where
  empty_more : (d u : ℕ) → u < length r.rings → turns_of new u ≤ d → later_in new u d ≡ None
  empty_more d = by_unit unit (λ u. u < length r.rings → turns_of new u ≤ d → later_in new u d ≡ None)
      (λ had soon.
      let most : max (turns_of r unit) (past + 1) ≤ d = omega (arith, soon, turns_here) in
      let beyond = max_other (turns_of r unit) (past + 1) d most in
      is.past_apart d (λ same. omega (arith, same, beyond)) ∙ moving.empty unit d had (max_least (turns_of r unit) (past + 1) d most))
      (λ u other had soon. is.unit_apart u d had other ∙ moving.empty u d had (omega (arith, soon, turns_other u other)))

  still_more : (u : ℕ) → u < length r.rings → has new.moving u ≡ false → turns_of new u ≡ 0
  still_more = by_unit unit (λ u. u < length r.rings → has new.moving u ≡ false → turns_of new u ≡ 0)
      (λ had off. absurd (true≢false (sym (or-true (has r.moving unit)) ∙ ap (λ b. has r.moving unit || b) (sym (eq-eqb unit unit refl)) ∙ sym (sets unit) ∙ off)))
      (λ u other had off. turns_other u other ∙ moving.still u had
      (sym (or-false (has r.moving u)) ∙ ap (λ b. has r.moving u || b) (sym (ne_eqb unit u (λ same. other (sym same)))) ∙ sym (sets u) ∙ off))

  has_had : past + 1 < turns_of r unit → has r.moving unit ≡ true
  has_had beyond = elim (has r.moving unit) as (λ b. has r.moving unit ≡ b → b ≡ true) [
    | true ↦ λ on. refl
    | false ↦ λ off. absurd (omega (arith, beyond, moving.still unit there off))
  ] refl

  needed_here : is_some (later_in new unit (turns_of new unit - 1)) ≡ true
  needed_here = elim (nat_le (turns_of r unit) (past + 1)) as (λ b. nat_le (turns_of r unit) (past + 1) ≡ b → is_some (later_in new unit (turns_of new unit - 1)) ≡ true) [
    | true ↦ λ least.
        let last : turns_of new unit - 1 ≡ past = ap (λ n. n - 1) turns_here ∙ max_is (turns_of r unit) past least in
        ap (λ n. is_some (later_in new unit n)) last ∙ ap is_some is.here
    | false ↦ λ later.
        let beyond : past + 1 < turns_of r unit = greater (turns_of r unit) (past + 1) later in
        let last : turns_of new unit - 1 ≡ turns_of r unit - 1 = ap (λ n. n - 1) (turns_here ∙ max_was (turns_of r unit) (past + 1) later) in
        ap (λ n. is_some (later_in new unit n)) last ∙ ap is_some (is.past_apart (turns_of r unit - 1) (λ same. omega (arith, same, beyond)))
        ∙ moving.needed unit there (has_had beyond)
  ] refl

  needed_more : (u : ℕ) → u < length r.rings → has new.moving u ≡ true → is_some (later_in new u (turns_of new u - 1)) ≡ true
  needed_more = by_unit unit (λ u. u < length r.rings → has new.moving u ≡ true → is_some (later_in new u (turns_of new u - 1)) ≡ true)
      (λ had on. needed_here)
      (λ u other had on. ap (λ n. is_some (later_in new u (n - 1))) (turns_other u other) ∙ ap is_some (is.unit_apart u (turns_of r u - 1) had other)
      ∙ moving.needed u had
      (sym (or-false (has r.moving u)) ∙ ap (λ b. has r.moving u || b) (sym (ne_eqb unit u (λ same. other (sym same)))) ∙ sym (sets u) ∙ on))

  pub moving_begun : AreMoving new
  moving_begun = record {
    few = omega (arith, is.units, moving.few);
    empty = λ u d had soon. empty_more d u (omega (arith, had, is.units)) soon;
    still = λ u had off. still_more u (omega (arith, had, is.units)) off;
    needed = λ u had on. needed_more u (omega (arith, had, is.units)) on;
  }
