-- Digits have a value where they are those of a number, each counted by its place.
use Rattle.std.proofs.Common.{◌≡◌, ℕ, ◌+◌, ◌*◌, ◌^◌, ◌<◌, ◌≤◌, Bool, true, false, ◌==◌, ◌&&◌, List, [], ◌∷◌, length, drop, refl, inl, inr, arith, ◌∙◌, sym, ap, lit≤}
use Rattle.std.proofs.Math.Bool.{or-false}
use Rattle.std.proofs.Math.Nat.{pow-zero, pow-suc, pow-le-pow_right, mul-le-mul_right}
use Rattle.std.specs.Prelude.{Option, Some, None, is_some, option_map, nat_lt, nat_le, nat_eq, if◌then◌else◌, codes}
use Rattle.std.specs.List.{list_all, starts_with}
use Rattle.std.specs.Char.{is_ascii_digit, is_ascii_hexdigit, digit_value, is_digit}
use Rattle.std.specs.Str.Parse.{digits_value, digits_value_after}
use Rattle.std.proofs.lemmas.Bool.{cases_Bool, and_parts, eqb-true, ltb-true, leb-true, lt-ltb, false_from_ne_true, false≢true}
use Rattle.std.proofs.lemmas.Bool.Decides.{nat_tests}
use Rattle.tta_text.specs.Numbers.{value_below, digits_of, number_of, negative_of}
use Rattle.tta_text.specs.Words.{first_is, is_decimal, is_hexadecimal, is_number, is_negative, place_value, IsNumberWorth, IsNegativeWorth}

regrouped : (value base digit place rest : ℕ)
    → (value * base + digit) * place + rest ≡ value * (place * base) + (digit * place + rest)
regrouped value base digit place rest = omega arith

-- reading digits one after another gives the sum of what each is worth at its place
digits_value_after-place : (base value : ℕ) (digits : List ℕ)
    → digits_value_after base value digits ≡ value * base ^ length digits + place_value base digits
digits_value_after-place base value [] = rw (pow-zero base) (omega arith)
digits_value_after-place base value (d ∷ ds) =
    rw (digits_value_after-place base (value * base + digit_value d) ds, pow-suc)
    (regrouped value base (digit_value d) (base ^ length ds) (place_value base ds))

is_digit-decimal : (byte : ℕ) → is_digit byte 10 ≡ is_ascii_digit byte
is_digit-decimal byte = grind (arith, nat_tests)

is_digit-hexadecimal : (byte : ℕ) → is_digit byte 16 ≡ is_ascii_hexdigit byte
is_digit-hexadecimal byte = grind (arith, nat_tests)

list_all-same : (p q : ℕ → Bool) → ((x : ℕ) → p x ≡ q x) → (xs : List ℕ) → list_all p xs ≡ list_all q xs
list_all-same p q same [] = refl
list_all-same p q same (x ∷ xs) = rw (same x, list_all-same p q same xs) refl

is_some-if : (b : Bool) (value : ℕ) → is_some (if b then Some value else None) ≡ b
is_some-if true value = refl
is_some-if false value = refl

-- a value that is found is that of digits that the law allows
is_some-value_below : (base limit : ℕ) (test : ℕ → Bool) (digits : List ℕ) → ((x : ℕ) → is_digit x base ≡ test x)
    → is_some (value_below base limit digits) ≡ (list_all test digits && nat_lt (place_value base digits) limit)
unfolding value_below
is_some-value_below base limit test digits same =
    let place : digits_value base digits ≡ place_value base digits = rw (digits_value_after-place base 0 digits) (omega arith) in
    rw (is_some-if, place, list_all-same (λ digit. is_digit digit base) test same digits) refl

is_some-digits_of : (base most limit : ℕ) (digits : List ℕ)
    → is_some (digits_of base most limit digits)
    ≡ ((nat_lt 0 (length digits) && nat_le (length digits) most) && is_some (value_below base limit digits))
unfolding digits_of
is_some-digits_of base most limit digits =
    elim (nat_lt 0 (length digits) && nat_le (length digits) most) as
    (λ b. is_some (if b then value_below base limit digits else None) ≡ (b && is_some (value_below base limit digits))) [
      | true ↦ refl
      | false ↦ refl
    ]

pub is_some-decimal : (limit : ℕ) (digits : List ℕ) → is_some (digits_of 10 10 limit digits) ≡ is_decimal limit digits
is_some-decimal limit digits =
    rw (is_some-digits_of 10 10 limit digits, is_some-value_below 10 limit is_ascii_digit digits is_digit-decimal) refl

-- digits write less than the place before them is worth
place_value-below : (base : ℕ) (test : ℕ → Bool) (digits : List ℕ) → ((x : ℕ) → is_digit x base ≡ test x)
    → list_all test digits ≡ true → place_value base digits < base ^ length digits
place_value-below base test [] same h = rw (pow-zero base) (omega arith)
place_value-below base test (d ∷ ds) same h =
    let parts = and_parts (test d) (list_all test ds) h in
    let digit : digit_value d + 1 ≤ base = omega (arith, ltb-true (digit_value d) base (same d ∙ parts.0)) in
    let below = place_value-below base test ds same parts.1 in
    let place : (digit_value d + 1) * base ^ length ds ≤ base * base ^ length ds = mul-le-mul_right (base ^ length ds) digit in
    rw pow-suc (grind (arith, place, below))

is_some-hexadecimal : (digits : List ℕ) → is_some (digits_of 16 8 (2 ^ 32) digits) ≡ is_hexadecimal digits
is_some-hexadecimal digits =
    rw (is_some-digits_of 16 8 (2 ^ 32) digits, is_some-value_below 16 (2 ^ 32) is_ascii_hexdigit digits is_digit-hexadecimal) (
    elim (cases_Bool (nat_lt 0 (length digits) && nat_le (length digits) 8)) [
      | inr none ↦ rw none refl
      | inl short ↦ elim (cases_Bool (list_all is_ascii_hexdigit digits)) [
        | inr other ↦ rw (short, other) refl
        | inl all ↦
            let len : length digits ≤ 8 = leb-true (length digits) 8 (and_parts (nat_lt 0 (length digits)) (nat_le (length digits) 8) short).1 in
            let below = place_value-below 16 is_ascii_hexdigit digits is_digit-hexadecimal all in
            let limit : 16 ^ length digits ≤ 16 ^ 8 = pow-le-pow_right (lit≤ tt) len in
            let test : nat_lt (place_value 16 digits) (2 ^ 32) ≡ true = lt-ltb (place_value 16 digits) (2 ^ 32) (omega arith) in
            rw (short, all, test) refl
      ]
    ]
    )

-- no decimal digits begin with "0x"
prefix_is_no_decimal : (limit : ℕ) (word : List ℕ) → starts_with nat_eq word (codes "0x") ≡ true
    → is_decimal limit word ≡ false
prefix_is_no_decimal limit [] h = refl
prefix_is_no_decimal limit (first ∷ []) h =
    let none : false ≡ true = (and_parts (nat_eq 48 first) false h).1 in absurd (false≢true none)
prefix_is_no_decimal limit (first ∷ second ∷ word) h =
    let letter : 120 ≡ second = eqb-true 120 second (and_parts (nat_eq 120 second) true (and_parts (nat_eq 48 first) (nat_eq 120 second && true) h).1).0 in
    false_from_ne_true (is_decimal limit (first ∷ second ∷ word)) (λ decimal.
    let digits = (and_parts _ _ (and_parts _ _ decimal).1).0 in
    let digit : is_ascii_digit second ≡ true = (and_parts _ _ (and_parts _ _ digits).1).0 in
    false≢true (rw (← letter) at digit)
    )

-- a word has a number's value exactly where it is a number
pub is_some-number_of : (word : List ℕ) → is_some (number_of word) ≡ is_number word
unfolding number_of
is_some-number_of word =
    elim (cases_Bool (starts_with nat_eq word (codes "0x"))) [
      | inl prefix ↦
          rw (prefix, prefix_is_no_decimal (2 ^ 32) word prefix, is_some-hexadecimal (drop 2 word)) refl
      | inr none ↦ rw (none, is_some-decimal (2 ^ 32) word) (sym (or-false (is_decimal (2 ^ 32) word)))
    ]

sign_is_first : (word : List ℕ) → starts_with nat_eq word (codes "-") ≡ first_is (λ byte. byte == 45) word
sign_is_first [] = refl
sign_is_first (byte ∷ word) = grind (arith, nat_tests)

is_some-option_map : (f : ℕ → ℕ) (o : Option ℕ) → is_some (option_map f o) ≡ is_some o
is_some-option_map f (Some n) = refl
is_some-option_map f None = refl

-- the same of negative numbers
pub is_some-negative_of : (word : List ℕ) → is_some (negative_of word) ≡ is_negative word
unfolding negative_of
is_some-negative_of word =
    elim (cases_Bool (starts_with nat_eq word (codes "-"))) [
      | inl sign ↦
          let first = sign_is_first word in
          rw (sign, ← first, sign, is_some-option_map, is_some-decimal (2 ^ 31 + 1) (drop 1 word)) refl
      | inr none ↦ let first = sign_is_first word in rw (none, ← first, none) refl
    ]

none_is_none : (value : Option ℕ) → is_some value ≡ false → value ≡ None
none_is_none None h = refl
none_is_none (Some n) h = absurd (false≢true (sym h))

if_some : (b : Bool) (value : ℕ) → is_some (if b then Some value else None) ≡ true
    → (if b then Some value else None) ≡ Some value
if_some true value h = refl
if_some false value h = absurd (false≢true h)

value_below-place : (base limit : ℕ) (digits : List ℕ) → is_some (value_below base limit digits) ≡ true
    → value_below base limit digits ≡ Some (place_value base digits)
unfolding value_below
value_below-place base limit digits h =
    let place : digits_value base digits ≡ place_value base digits = rw (digits_value_after-place base 0 digits) (omega arith) in
    if_some _ (digits_value base digits) h ∙ ap (λ n. Some n) place

digits_of-place : (base most limit : ℕ) (digits : List ℕ) → is_some (digits_of base most limit digits) ≡ true
    → digits_of base most limit digits ≡ Some (place_value base digits)
unfolding digits_of
digits_of-place base most limit digits h =
    elim (cases_Bool (nat_lt 0 (length digits) && nat_le (length digits) most)) [
      | inl short ↦ rw short (value_below-place base limit digits (rw short at h))
      | inr long ↦ absurd (false≢true (rw long at h))
    ]

-- what numbers are worth
pub number_of-worth : (word : List ℕ) → IsNumberWorth word (number_of word)
unfolding number_of
number_of-worth word =
    record {
      decimal = λ h. elim (cases_Bool (starts_with nat_eq word (codes "0x"))) [
        | inl prefix ↦ absurd (false≢true (sym (prefix_is_no_decimal (2 ^ 32) word prefix) ∙ h))
        | inr none ↦ rw none (digits_of-place 10 10 (2 ^ 32) word (is_some-decimal (2 ^ 32) word ∙ h))
      ];
      hexadecimal = λ h.
          let parts = and_parts (starts_with nat_eq word (codes "0x")) (is_hexadecimal (drop 2 word)) h in
          rw parts.0 (digits_of-place 16 8 (2 ^ 32) (drop 2 word) (is_some-hexadecimal (drop 2 word) ∙ parts.1));
      other = λ h. none_is_none (number_of word) (is_some-number_of word ∙ h);
    }

pub negative_of-worth : (word : List ℕ) → IsNegativeWorth word (negative_of word)
unfolding negative_of
negative_of-worth word =
    record {
      negative = λ h.
          let parts = and_parts (first_is (λ byte. byte == 45) word) (is_decimal (2 ^ 31 + 1) (drop 1 word)) h in
          let sign : starts_with nat_eq word (codes "-") ≡ true = sign_is_first word ∙ parts.0 in
          rw (sign, digits_of-place 10 10 (2 ^ 31 + 1) (drop 1 word) (is_some-decimal (2 ^ 31 + 1) (drop 1 word) ∙ parts.1)) refl;
      other = λ h. none_is_none (negative_of word) (is_some-negative_of word ∙ h);
    }
