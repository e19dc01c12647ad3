-- What the rings have after the next cycle of several units.
use Rattle.std.proofs.Common.{◌≡◌, ◌<◌, ◌≤◌, ◌+◌, ◌-◌, ℕ, Bool, true, false, length, None, refl, ap, sym, ◌∙◌, subst, arith}
use Rattle.std.specs.Prelude.{if◌then◌else◌}
use Rattle.std.specs.Option.{option_or}
use Rattle.tta_flight.specs.Rings.{Rings, shown_in, due_in, is_among, IsAdvanced, AreEmpty}
use Rattle.tta_flight.proofs.Among.{is_among_more, is_among_none, is_among_next, is_among_first}

-- ---- units of which nothing is coming

-- they are in the next cycle as they are
pub advanced_empty : (base count : ℕ) (r : Rings) → AreEmpty base (base + count) r → IsAdvanced base count r r
advanced_empty base count r empty = record {
  units = refl;
  longest = λ u. refl;
  shown = λ u there. elim (is_among base count u) as (λ b. is_among base count u ≡ b
      → shown_in r u ≡ (if b then option_or (due_in r u 1) (shown_in r u) else shown_in r u)) [
        | true ↦ λ is. sym (ap (λ o. option_or o (shown_in r u)) (none u 1 is))
        | false ↦ λ is. refl
      ] refl;
  due = λ u d there. elim (is_among base count u) as (λ b. is_among base count u ≡ b
      → due_in r u d ≡ (if b then due_in r u (d + 1) else due_in r u d)) [
        | true ↦ λ is. none u d is ∙ sym (none u (d + 1) is)
        | false ↦ λ is. refl
      ] refl;
}
  where
    none : (u d : ℕ) → is_among base count u ≡ true → due_in r u d ≡ None
    none u d is =
        let least : base ≤ u = grind (arith, is) in
        let most : u < base + count = grind (arith, is) in
        empty u d least most

-- ---- some units, and more after them

pub advanced_more : (base count more : ℕ) (a b c : Rings) → IsAdvanced base count a b → IsAdvanced (base + count) more b c
    → IsAdvanced base (count + more) a c
advanced_more base count more a b c first next = record {
  units = next.units ∙ first.units;
  longest = λ u. next.longest u ∙ first.longest u;
  shown = λ u there. by_among u (λ b0 b1 b2. shown_in c u ≡ (if b2 then option_or (due_in a u 1) (shown_in a u) else shown_in a u))
      (λ m0 m1. at_next_shown u there m1 ∙ shown_first u there true m0)
      (λ m0 m1. at_this_shown u there m1 m0)
      (λ m0 m1. at_next_shown u there m1 ∙ shown_first u there false m0);
  due = λ u d there. by_among u (λ b0 b1 b2. due_in c u d ≡ (if b2 then due_in a u (d + 1) else due_in a u d))
      (λ m0 m1. skip_due u d there m1 ∙ due_first u d there true m0)
      (λ m0 m1. take_due u d there m1 ∙ due_first u (d + 1) there false m0)
      (λ m0 m1. skip_due u d there m1 ∙ due_first u d there false m0);
}
  where
    had : (u : ℕ) → u < length a.rings → u < length b.rings
    had u there = omega (arith, there, first.units)

    shown_first : (u : ℕ) → u < length a.rings → (m : Bool) → is_among base count u ≡ m
        → shown_in b u ≡ (if m then option_or (due_in a u 1) (shown_in a u) else shown_in a u)
    shown_first u there m is = subst (λ x. shown_in b u ≡ (if x then option_or (due_in a u 1) (shown_in a u) else shown_in a u)) is (first.shown u there)

    due_first : (u d : ℕ) → u < length a.rings → (m : Bool) → is_among base count u ≡ m → due_in b u d ≡ (if m then due_in a u (d + 1) else due_in a u d)
    due_first u d there m is = subst (λ x. due_in b u d ≡ (if x then due_in a u (d + 1) else due_in a u d)) is (first.due u d there)

    at_next_shown : (u : ℕ) → u < length a.rings → is_among (base + count) more u ≡ false → shown_in c u ≡ shown_in b u
    at_next_shown u there is = subst (λ x. shown_in c u ≡ (if x then option_or (due_in b u 1) (shown_in b u) else shown_in b u)) is (next.shown u (had u there))

    at_this_shown : (u : ℕ) → u < length a.rings → is_among (base + count) more u ≡ true → is_among base count u ≡ false
        → shown_in c u ≡ option_or (due_in a u 1) (shown_in a u)
    at_this_shown u there is not_yet =
        subst (λ x. shown_in c u ≡ (if x then option_or (due_in b u 1) (shown_in b u) else shown_in b u)) is (next.shown u (had u there))
        ∙ ap (λ o. option_or o (shown_in b u)) (due_first u 1 there false not_yet) ∙ ap (option_or (due_in a u 1)) (shown_first u there false not_yet)

    skip_due : (u d : ℕ) → u < length a.rings → is_among (base + count) more u ≡ false → due_in c u d ≡ due_in b u d
    skip_due u d there is = subst (λ x. due_in c u d ≡ (if x then due_in b u (d + 1) else due_in b u d)) is (next.due u d (had u there))

    take_due : (u d : ℕ) → u < length a.rings → is_among (base + count) more u ≡ true → due_in c u d ≡ due_in b u (d + 1)
    take_due u d there is = subst (λ x. due_in c u d ≡ (if x then due_in b u (d + 1) else due_in b u d)) is (next.due u d (had u there))

    by_among : (u : ℕ) (P : Bool → Bool → Bool → Type 0)
        → (is_among base count u ≡ true → is_among (base + count) more u ≡ false → P true false true)
        → (is_among base count u ≡ false → is_among (base + count) more u ≡ true → P false true true)
        → (is_among base count u ≡ false → is_among (base + count) more u ≡ false → P false false false)
        → P (is_among base count u) (is_among (base + count) more u) (is_among base (count + more) u)
    by_among u P of_first of_next of_none = elim (is_among base count u) as (λ m. is_among base count u ≡ m → P m (is_among (base + count) more u) (is_among base (count + more) u)) [
      | true ↦ λ is.
          let m1 = is_among_more base count more u is in
          rw (m1, is_among_first base count more u is) (of_first is m1)
      | false ↦ λ is. elim (is_among (base + count) more u) as (λ m. is_among (base + count) more u ≡ m → P false m (is_among base (count + more) u)) [
        | true ↦ λ here.
            rw (is_among_next base count more u here) (of_next is here)
        | false ↦ λ other.
            rw (is_among_none base count more u is other) (of_none is other)
      ] refl
    ] refl

-- ---- units up to an end

pub advanced_from : (base at : ℕ) (r : Rings) → base ≤ at → AreEmpty base at r → IsAdvanced base (at - base) r r
advanced_from base at r order empty =
    let end : at ≡ base + (at - base) = omega (arith, order) in
    advanced_empty base (at - base) r (subst (λ n. AreEmpty base n r) end empty)

pub advanced_chain : (base at next : ℕ) (a b c : Rings) → base ≤ at → at ≤ next → IsAdvanced base (at - base) a b → IsAdvanced at (next - at) b c
    → IsAdvanced base (next - base) a c
advanced_chain base at next a b c order later first rest =
    let at_is : at ≡ base + (at - base) = omega (arith, order) in
    let all = advanced_more base (at - base) (next - at) a b c first (subst (λ n. IsAdvanced n (next - at) b c) at_is rest) in
    let count : at - base + (next - at) ≡ next - base = omega (arith, order, later) in
    subst (λ n. IsAdvanced base n a c) count all

-- up to a unit of which nothing before it is coming
pub advanced_to : (base at next : ℕ) (a b : Rings) → base ≤ at → at ≤ next → IsAdvanced base (at - base) a b → AreEmpty at next b
    → IsAdvanced base (next - base) a b
advanced_to base at next a b order later first empty = advanced_chain base at next a b b order later first (advanced_from at next b later empty)

pub advanced_none : (base : ℕ) (r : Rings) → IsAdvanced base (base - base) r r
advanced_none base r = advanced_from base base r (omega arith) (λ u d least most. absurd (omega (arith, least, most)))
