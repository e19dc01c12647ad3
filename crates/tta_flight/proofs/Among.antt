-- Which units are among so many from one on.
use Rattle.std.proofs.Common.{◌≡◌, ◌≢◌, ◌<◌, ◌≤◌, ◌+◌, ℕ, true, false, refl, arith}
use Rattle.std.specs.Prelude.{nat_le, nat_lt}
use Rattle.tta_flight.specs.Rings.{is_among}

-- ---- one unit

pub among_here : (unit : ℕ) → is_among unit 1 unit ≡ true
among_here unit = grind arith

pub among_other : (unit u : ℕ) → u ≢ unit → is_among unit 1 u ≡ false
among_other unit u other = grind (arith, other)

-- ---- some units, and more after them

pub among_past : (base count u : ℕ) → base + count ≤ u → is_among base count u ≡ false
among_past base count u past = grind (arith, past)

pub is_among_more : (base count more u : ℕ) → is_among base count u ≡ true → is_among (base + count) more u ≡ false
is_among_more base count more u is = grind (arith, is)

pub is_among_none : (base count more u : ℕ) → is_among base count u ≡ false → is_among (base + count) more u ≡ false → is_among base (count + more) u ≡ false
is_among_none base count more u is other =
    elim (nat_le (base + count) u) as (λ b. nat_le (base + count) u ≡ b → is_among base (count + more) u ≡ false) [
      | true ↦ λ past. grind (arith, past, other)
      | false ↦ λ before. grind (arith, before, is)
    ] refl

pub is_among_next : (base count more u : ℕ) → is_among (base + count) more u ≡ true → is_among base (count + more) u ≡ true
is_among_next base count more u here =
    let least : base + count ≤ u = grind (arith, here) in
    let most : u < base + count + more = grind (arith, here) in
    let is_least : nat_le base u ≡ true = grind (arith, least) in
    let is_most : nat_lt u (base + (count + more)) ≡ true = grind (arith, most) in
    rw (is_least, is_most) refl

pub is_among_first : (base count more u : ℕ) → is_among base count u ≡ true → is_among base (count + more) u ≡ true
is_among_first base count more u here =
    let least : base ≤ u = grind (arith, here) in
    let most : u < base + count = grind (arith, here) in
    let is_least : nat_le base u ≡ true = grind (arith, least) in
    let is_most : nat_lt u (base + (count + more)) ≡ true = grind (arith, most) in
    rw (is_least, is_most) refl
