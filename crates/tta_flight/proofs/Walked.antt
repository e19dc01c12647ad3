-- Units whose bits are in one word of a set.
use Rattle.std.proofs.Common.{◌≡◌, ◌≢◌, ◌<◌, ◌≤◌, ◌+◌, ◌-◌, ◌*◌, ◌/◌, ◌%◌, ℕ, zero, suc, true, false, length, None, refl, ap, sym, ◌∙◌, subst, arith}
use Rattle.std.specs.Prelude.{◌==◌, ◌&&◌, if◌then◌else◌, nat_le, nat_lt}
use Rattle.std.specs.Int.{bit_at}
use Rattle.tta_flight.specs.Marked.{AreBits}
use Rattle.std.proofs.lemmas.Bool.{and_parts, eq-eqb}
use Rattle.tta_flight.proofs.Among.{among_past}
use Rattle.tta_flight.specs.Rings.{Rings, due_in, later_in, is_among, nearest, IsAdvanced, AreEmpty}
use Rattle.tta_flight.proofs.Advanced.{advanced_chain, advanced_to}

module _ (number at bit u : ℕ) (here : u / 64 ≡ number) (order : 64 * number ≤ at) where
  -- the bit of a unit before the next one is before that of the next one
  pub bit_before : at ≤ u → u < 64 * number + bit → u % 64 < bit
  bit_before least below = omega (arith, here, order, least, below)

  -- the bit of a unit past it is another
  pub bit_past : at ≤ 64 * number + bit → bit < 64 → 64 * number + bit + 1 ≤ u → u % 64 ≢ bit
  bit_past later few past same = omega (arith, here, order, later, few, past, same)

-- a unit of which nothing is due, now or later
pub none_due : (r : Rings) (u : ℕ) → due_in r u 0 ≡ None → ((past : ℕ) → later_in r u past ≡ None) → (d : ℕ) → due_in r u d ≡ None
none_due r u over none zero = over
none_due r u over none (suc past) = none past

-- a unit past those that went to their next cycle is as it was
pub due_past : (from count u d : ℕ) (a b : Rings) → IsAdvanced from count a b → u < length a.rings → from + count ≤ u → due_in b u d ≡ due_in a u d
due_past from count u d a b some had past =
    subst (λ x. due_in b u d ≡ (if x then due_in a u (d + 1) else due_in a u d)) (among_past from count u past) (some.due u d had)

module _ (base end : ℕ) (order : base ≤ end) where
  pub nearest_first : (at : ℕ) → base ≤ nearest base end at
  nearest_first at = grind (arith, order)

  pub nearest_order : (at next : ℕ) → at ≤ next → nearest base end at ≤ nearest base end next
  nearest_order at next later = grind (arith, order, later)

  -- a unit before the nearest to another is before that one, and before the end
  pub nearest_before : (at u : ℕ) → base ≤ u → u < nearest base end at → u < at
  nearest_before at u first before = grind (arith, order, first, before)

  pub nearest_within : (at u : ℕ) → u < nearest base end at → u < end
  nearest_within at u before = grind (arith, order, before)

  -- and one that is not before the nearest to another is not before that one
  pub nearest_least : (at u : ℕ) → nearest base end at ≤ u → u < end → at ≤ u
  nearest_least at u least most = grind (arith, order, least, most)

  pub nearest_past : (at u : ℕ) → base ≤ u → at ≤ u → nearest base end at ≤ u
  nearest_past at u first past = grind (arith, order, first, past)

  nearest_above : (at u : ℕ) → u < end → u < at → u < nearest base end at
  nearest_above at u last before = grind (arith, order, last, before)

  pub nearest_low : (at : ℕ) → at ≤ base → nearest base end at ≡ base
  nearest_low at low = grind (arith, low)

  pub nearest_high : (at : ℕ) → base < at → end ≤ at → nearest base end at ≡ end
  nearest_high at past high = grind (arith, past, high)

  -- one of the units is the nearest to itself
  pub nearest_here : (unit : ℕ) → base ≤ unit → unit < end → nearest base end unit ≡ unit
  nearest_here unit first last = grind (arith, first, last)

  pub nearest_next : (unit : ℕ) → base ≤ unit → unit < end → nearest base end (unit + 1) ≡ unit + 1
  nearest_next unit first last = grind (arith, first, last)

  -- the next cycle of one of the units
  pub advanced_one : (unit : ℕ) (a b : Rings) → base ≤ unit → unit < end → IsAdvanced unit 1 a b
      → IsAdvanced (nearest base end unit) (nearest base end (unit + 1) - nearest base end unit) a b
  advanced_one unit a b first last one =
      let here = nearest_here unit first last in
      let next = nearest_next unit first last in
      let count : 1 ≡ nearest base end (unit + 1) - nearest base end unit = omega (arith, here, next) in
      subst (λ n. IsAdvanced n (nearest base end (unit + 1) - nearest base end unit) a b) (sym here)
      (subst (λ n. IsAdvanced unit n a b) count one)

  -- up to a unit, then past units of which nothing is coming, and then past one more
  pub advanced_next : (start at unit : ℕ) (a b c : Rings) → start ≤ at → at ≤ unit
      → IsAdvanced (nearest base end start) (nearest base end at - nearest base end start) a b
      → AreEmpty (nearest base end at) (nearest base end unit) b
      → IsAdvanced (nearest base end unit) (nearest base end (unit + 1) - nearest base end unit) b c
      → IsAdvanced (nearest base end start) (nearest base end (unit + 1) - nearest base end start) a c
  advanced_next start at unit a b c order_at later before empty one =
      let to_unit = advanced_to (nearest base end start) (nearest base end at) (nearest base end unit) a b (nearest_order start at order_at)
      (nearest_order at unit later) before empty in
      advanced_chain (nearest base end start) (nearest base end unit) (nearest base end (unit + 1)) a b c
      (nearest_order start unit (omega (arith, order_at, later))) (nearest_order unit (unit + 1) (omega arith)) to_unit one

  -- the units of one word that are not before one unit and are before an end
  pub among_word : (number u : ℕ) → (u / 64 == number && nat_le base u && nat_lt u end)
      ≡ is_among (nearest base end (64 * number)) (nearest base end (64 * number + 64) - nearest base end (64 * number)) u
  among_word number u =
      let from : ℕ = nearest base end (64 * number) in
      let to : ℕ = nearest base end (64 * number + 64) in
      let grows : from ≤ to = nearest_order (64 * number) (64 * number + 64) (omega arith) in
      elim (is_among from (to - from) u) as (λ b. is_among from (to - from) u ≡ b → (u / 64 == number && nat_le base u && nat_lt u end) ≡ b) [
        | true ↦ λ is.
            let parts = and_parts (nat_le from u) (nat_lt u (from + (to - from))) is in
            let least : from ≤ u = grind (arith, parts.0) in
            let most : u < to = grind (arith, parts.1, grows) in
            let last : u < end = nearest_within (64 * number + 64) u most in
            let first : base ≤ u = omega (arith, least, nearest_first (64 * number)) in
            let after : 64 * number ≤ u = nearest_least (64 * number) u least last in
            let before : u < 64 * number + 64 = nearest_before (64 * number + 64) u first most in
            let here : u / 64 ≡ number = omega (arith, after, before) in
            let is_here : (u / 64 == number) ≡ true = eq-eqb (u / 64) number here in
            let is_first : nat_le base u ≡ true = grind (arith, first) in
            let is_last : nat_lt u end ≡ true = grind (arith, last) in
            rw (is_here, is_first, is_last) refl
        | false ↦ λ none. elim (u / 64 == number && nat_le base u && nat_lt u end) as (λ b. (u / 64 == number && nat_le base u && nat_lt u end) ≡ b → b ≡ false) [
          | false ↦ λ is. refl
          | true ↦ λ is.
              let parts = and_parts (u / 64 == number && nat_le base u) (nat_lt u end) is in
              let more = and_parts (u / 64 == number) (nat_le base u) parts.0 in
              let here : u / 64 ≡ number = grind (arith, more.0) in
              let first : base ≤ u = grind (arith, more.1) in
              let last : u < end = grind (arith, parts.1) in
              let least : from ≤ u = nearest_past (64 * number) u first (omega (arith, here)) in
              let most : u < to = nearest_above (64 * number + 64) u last (omega (arith, here)) in
              let is_least : nat_le from u ≡ true = grind (arith, least) in
              let is_most : nat_lt u (from + (to - from)) ≡ true = grind (arith, most, grows) in
              sym (ap (λ b. b && nat_lt u (from + (to - from))) is_least ∙ is_most) ∙ none
        ] refl
      ] refl

module _ (number base end bits : ℕ) (are : AreBits number base end bits) where
  -- the bits are those of the units of one word that are not before one unit and are before an end
  pub among_bits : (u : ℕ) → (u / 64 == number && bit_at bits (u % 64) == 1) ≡ (u / 64 == number && nat_le base u && nat_lt u end)
  among_bits u = elim (u / 64 == number) as (λ b. (u / 64 == number) ≡ b → (b && bit_at bits (u % 64) == 1) ≡ (b && nat_le base u && nat_lt u end)) [
    | true ↦ λ is. are u (grind (arith, is))
    | false ↦ λ is. refl
  ] refl

  pub bit_is : (u : ℕ) → u / 64 ≡ number → base ≤ u → u < end → bit_at bits (u % 64) ≡ 1
  bit_is u here first last =
      let is_first : nat_le base u ≡ true = grind (arith, first) in
      let is_last : nat_lt u end ≡ true = grind (arith, last) in
      let is : (bit_at bits (u % 64) == 1) ≡ true = are u here ∙ ap (λ b. b && nat_lt u end) is_first ∙ is_last in
      grind (arith, is)

  pub within_bits : (u : ℕ) → u / 64 ≡ number → bit_at bits (u % 64) ≡ 1 → (base ≤ u) × (u < end)
  within_bits u here is =
      let both : (nat_le base u && nat_lt u end) ≡ true = sym (are u here) ∙ ap (λ n. n == 1) is in
      let parts = and_parts (nat_le base u) (nat_lt u end) both in
      (grind (arith, parts.0), grind (arith, parts.1))
