-- What the rings have after a unit's next cycle, and once what was due of some units is over.
use Rattle.std.proofs.Common.{◌≡◌, ◌≢◌, ◌<◌, ◌+◌, ℕ, zero, suc, Bool, true, false, length, None, Some, refl, ap, sym, ◌∙◌, subst, arith}
use Rattle.std.specs.Prelude.{◌==◌, ◌&&◌, if◌then◌else◌}
use Rattle.std.specs.Option.{option_or}
use Rattle.std.proofs.lemmas.Bool.{eq-eqb, ne_eqb}
use Rattle.tta_flight.specs.Rings.{Rings, shown_in, due_in, later_in, is_among, IsStarted, IsTurned, IsAdvanced, AreOver, IsSame, IsCome}
use Rattle.tta_flight.proofs.Among.{among_here, among_other}
use Rattle.tta_flight.proofs.Cells.{due_later, by_unit}

-- ---- a unit's next cycle

turned_later : (unit : ℕ) (a b : Rings) → IsTurned unit a b → (past : ℕ) → due_in b unit (suc past) ≡ due_in a unit (suc past + 1)
turned_later unit a b is past =
    let more : past + 1 ≡ suc past = omega arith in
    is.later past ∙ ap (later_in a unit) more ∙ sym (due_later a unit (suc past))

-- the ring turned, and it had nothing for the next cycle
pub stepped_still : (unit : ℕ) (a b : Rings) → unit < length a.rings → IsTurned unit a b → due_in a unit 0 ≡ None → due_in a unit 1 ≡ None → IsAdvanced unit 1 a b
stepped_still unit a b there is over none = record {
  units = is.units;
  longest = is.longest;
  shown = λ u had. by_unit unit (λ u. shown_in b u ≡ (if is_among unit 1 u then option_or (due_in a u 1) (shown_in a u) else shown_in a u))
      (rw (among_here unit) (is.shown unit ∙ sym (ap (λ o. option_or o (shown_in a unit)) none)))
      (λ u other. rw (among_other unit u other) (is.shown u)) u;
  due = λ u d. by_unit unit (λ u. u < length a.rings → due_in b u d ≡ (if is_among unit 1 u then due_in a u (d + 1) else due_in a u d))
      (λ had. rw (among_here unit) (here d))
      (λ u other had. rw (among_other unit u other) (others u other had d)) u;
}
  where
    here : (d : ℕ) → due_in b unit d ≡ due_in a unit (d + 1)
    here zero = is.now unit ∙ over ∙ sym none
    here (suc p) = turned_later unit a b is p

    others : (u : ℕ) → u ≢ unit → u < length a.rings → (d : ℕ) → due_in b u d ≡ due_in a u d
    others u other had zero = is.now u
    others u other had (suc p) = is.unit_apart u p had other

-- the ring turned, and what it had for the next cycle shows
pub stepped_shown : (unit value : ℕ) (a b c : Rings) → unit < length a.rings → IsTurned unit a b → due_in a unit 1 ≡ Some value → IsStarted unit 0 value b c
    → IsAdvanced unit 1 a c
stepped_shown unit value a b c there is due_is shows = record {
  units = shows.units ∙ is.units;
  longest = λ u. shows.longest u ∙ is.longest u;
  shown = λ u had. by_unit unit (λ u. shown_in c u ≡ (if is_among unit 1 u then option_or (due_in a u 1) (shown_in a u) else shown_in a u))
      (rw (among_here unit) (shown_at unit true (eq-eqb unit unit refl) ∙ sym (ap (λ o. option_or o (shown_in a unit)) due_is)))
      (λ u other. rw (among_other unit u other) (shown_at u false (ne_eqb u unit other) ∙ is.shown u)) u;
  due = λ u d. by_unit unit (λ u. u < length a.rings → due_in c u d ≡ (if is_among unit 1 u then due_in a u (d + 1) else due_in a u d))
      (λ had. rw (among_here unit) (here d))
      (λ u other had. rw (among_other unit u other) (others u other had d)) u;
}
  where
    shown_at : (u : ℕ) (b0 : Bool) → (u == unit) ≡ b0 → shown_in c u ≡ (if b0 && true then Some value else shown_in b u)
    shown_at u b0 same = shows.shown u ∙ ap (λ x. if x && true then Some value else shown_in b u) same

    here : (d : ℕ) → due_in c unit d ≡ due_in a unit (d + 1)
    here zero = shows.here ∙ sym due_is
    here (suc p) = shows.delay_apart (suc p) (λ same. omega (arith, same)) ∙ turned_later unit a b is p

    others : (u : ℕ) → u ≢ unit → u < length a.rings → (d : ℕ) → due_in c u d ≡ due_in a u d
    others u other had zero = shows.unit_apart u 0 (subst (λ n. u < n) (sym is.units) had) other ∙ is.now u
    others u other had (suc p) = shows.unit_apart u (suc p) (subst (λ n. u < n) (sym is.units) had) other ∙ is.unit_apart u p had other

-- ---- the same where something may be due of it at this moment

come_others : (unit : ℕ) (a b : Rings) → IsTurned unit a b → (u : ℕ) → u < length a.rings → u ≢ unit → IsSame u a b
come_others unit a b is u had other = record { shown = is.shown u; due = each } where
  each : (d : ℕ) → due_in b u d ≡ due_in a u d
  each zero = is.now u
  each (suc p) = is.unit_apart u p had other

pub come_still : (unit : ℕ) (a b : Rings) → IsTurned unit a b → due_in a unit 1 ≡ None → IsCome unit a b
come_still unit a b is none = record {
  units = is.units;
  longest = is.longest;
  here = record {
    shown = is.shown unit ∙ sym (ap (λ o. option_or o (shown_in a unit)) none);
    now = is.now unit ∙ sym (ap (λ o. option_or o (due_in a unit 0)) none);
    later = is.later;
  };
  others = come_others unit a b is;
}

pub come_shown : (unit value : ℕ) (a b c : Rings) → IsTurned unit a b → due_in a unit 1 ≡ Some value → IsStarted unit 0 value b c → IsCome unit a c
come_shown unit value a b c is due_is shows = record {
  units = shows.units ∙ is.units;
  longest = λ u. shows.longest u ∙ is.longest u;
  here = record {
    shown = shown_at unit true (eq-eqb unit unit refl) ∙ sym (ap (λ o. option_or o (shown_in a unit)) due_is);
    now = shows.here ∙ sym (ap (λ o. option_or o (due_in a unit 0)) due_is);
    later = λ past. shows.delay_apart (suc past) (λ same. omega (arith, same)) ∙ is.later past;
  };
  others = λ u had other.
      let before = come_others unit a b is u had other in
      record {
        shown = shown_at u false (ne_eqb u unit other) ∙ before.shown;
        due = λ d. shows.unit_apart u d (subst (λ n. u < n) (sym is.units) had) other ∙ before.due d;
      };
} where
  shown_at : (u : ℕ) (b0 : Bool) → (u == unit) ≡ b0 → shown_in c u ≡ (if b0 && true then Some value else shown_in b u)
  shown_at u b0 same = shows.shown u ∙ ap (λ x. if x && true then Some value else shown_in b u) same

-- ---- some units

-- what was due of some units is over before their next cycle, as it is after it
pub advanced_over : (base count : ℕ) (a b c : Rings) → AreOver base count a b → IsAdvanced base count b c → IsAdvanced base count a c
advanced_over base count a b c over is = record {
  units = is.units ∙ over.units;
  longest = λ u. is.longest u ∙ over.longest u;
  shown = λ u there. is.shown u (subst (λ n. u < n) (sym over.units) there)
      ∙ ap (λ o. if is_among base count u then option_or o (shown_in b u) else shown_in b u) (over.later u 0)
      ∙ ap (λ o. if is_among base count u then option_or (due_in a u 1) o else o) (over.shown u);
  due = λ u d there. elim (is_among base count u) as (λ m. is_among base count u ≡ m → due_in c u d ≡ (if m then due_in b u (d + 1) else due_in b u d)
      → due_in c u d ≡ (if m then due_in a u (d + 1) else due_in a u d)) [
        | true ↦ λ is due. due ∙ due_later b u d ∙ over.later u d ∙ sym (due_later a u d)
        | false ↦ λ is due. due ∙ stays u is d
      ] refl (is.due u d (subst (λ n. u < n) (sym over.units) there));
}
  where
    stays : (u : ℕ) → is_among base count u ≡ false → (d : ℕ) → due_in b u d ≡ due_in a u d
    stays u other zero = over.now u ∙ ap (λ m. if m then None else due_in a u 0) other
    stays u other (suc p) = over.later u p
