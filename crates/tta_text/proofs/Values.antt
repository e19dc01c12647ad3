-- Reading digits one after another.
use Rattle.std.proofs.Common.{◌≡◌, ℕ, ◌+◌, ◌*◌, ◌<◌, ◌≤◌, true, false, ◌&&◌, List, [], ◌∷◌, length, get_or, drop, refl, arith, le_refl, le_trans, mul-le-mul_left}
use Rattle.std.specs.Prelude.{Option, Some, None, nat_lt, if◌then◌else◌}
use Rattle.std.proofs.lemmas.Bool.Decides.{nat_tests}
use Rattle.std.proofs.lemmas.List.{drop_more}
use Rattle.std.specs.List.{list_all}
use Rattle.std.specs.Char.{digit_value, is_digit}
use Rattle.std.specs.Str.Parse.{digits_value_after}

-- the value of what is left of some digits, after digits of this value
unfoldable pub value_from : (base limit value : ℕ) → List ℕ → Option ℕ
value_from base limit value digits =
    if list_all (λ digit. is_digit digit base) digits && nat_lt (digits_value_after base value digits) limit
    then Some (digits_value_after base value digits)
    else None

-- more digits never make a value less
le-digits_value_after : (base value : ℕ) (digits : List ℕ) → 1 ≤ base → value ≤ digits_value_after base value digits
le-digits_value_after base value [] h = le_refl value
le-digits_value_after base value (d ∷ ds) h =
    let step : value ≤ value * base + digit_value d = omega (arith, mul-le-mul_left value h) in
    le_trans step (le-digits_value_after base (value * base + digit_value d) ds h)

-- a digit more
pub value_from-digit : (base limit value : ℕ) (digits : List ℕ) (i : ℕ) → i < length digits
    → digit_value (get_or digits i 0) < base
    → value_from base limit value (drop i digits)
    ≡ value_from base limit (value * base + digit_value (get_or digits i 0)) (drop (i + 1) digits)
unfolding value_from
value_from-digit base limit value digits i within h =
    let digit : is_digit (get_or digits i 0) base ≡ true = grind (arith, nat_tests) in
    rw (drop_more digits i 0 within, digit) refl

-- a byte that is no digit
pub value_from-other : (base limit value : ℕ) (digits : List ℕ) (i : ℕ) → i < length digits
    → base ≤ digit_value (get_or digits i 0)
    → value_from base limit value (drop i digits) ≡ None
unfolding value_from
value_from-other base limit value digits i within h =
    let digit : is_digit (get_or digits i 0) base ≡ false = grind (arith, nat_tests) in
    rw (drop_more digits i 0 within, digit) refl

-- once the limit is reached it stays so
pub value_from-over : (base limit value : ℕ) (digits : List ℕ) → 1 ≤ base → limit ≤ value
    → value_from base limit value digits ≡ None
unfolding value_from
value_from-over base limit value ds h over =
    let large : limit ≤ digits_value_after base value ds = le_trans over (le-digits_value_after base value ds h) in
    let test : nat_lt (digits_value_after base value ds) limit ≡ false = grind (arith, nat_tests) in
    rw test (
    elim (list_all (λ digit. is_digit digit base) ds) as
    (λ b. (if b && false then Some (digits_value_after base value ds) else None) ≡ None) [
      | true ↦ refl
      | false ↦ refl
    ]
    )

-- no digit is left
pub value_from-nil : (base limit value : ℕ) → value < limit → value_from base limit value [] ≡ Some value
unfolding value_from
value_from-nil base limit value h =
    let test : nat_lt value limit ≡ true = grind (arith, nat_tests) in rw test refl
