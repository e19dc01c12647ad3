-- The values of the numbers that a text gives.
use Rattle.std.specs.Prelude.{ℕ, ◌+◌, ◌-◌, ◌^◌, ◌%◌, ◌&&◌, nat_lt, nat_le, nat_eq, if◌then◌else◌, List, length, drop, Option, Some, None, option_map, codes}
use Rattle.std.specs.List.{list_all, starts_with}
use Rattle.std.specs.Char.{is_digit}
use Rattle.std.specs.Str.Parse.{digits_value}

-- the value of digits of this base, where each byte is one and the value is below the limit
unfoldable pub value_below : (base limit : ℕ) → List ℕ → Option ℕ
value_below base limit digits =
    if list_all (λ digit. is_digit digit base) digits && nat_lt (digits_value base digits) limit
    then Some (digits_value base digits)
    else None

-- the same of one to `most` digits
unfoldable pub digits_of : (base most limit : ℕ) → List ℕ → Option ℕ
digits_of base most limit digits =
    if nat_lt 0 (length digits) && nat_le (length digits) most
    then value_below base limit digits
    else None

-- a number: one to ten decimal digits below 2 ^ 32, or "0x" and one to eight hexadecimal digits
unfoldable pub number_of : List ℕ → Option ℕ
number_of word =
    if starts_with nat_eq word (codes "0x")
    then digits_of 16 8 (2 ^ 32) (drop 2 word)
    else digits_of 10 10 (2 ^ 32) word

-- what 2 ^ 32 words make of a number below 0, given without its sign
abbrev pub negated : ℕ → ℕ
negated magnitude = (2 ^ 32 - magnitude) % 2 ^ 32

-- a negative number: "-" and one to ten decimal digits of at most 2 ^ 31
unfoldable pub negative_of : List ℕ → Option ℕ
negative_of word =
    if starts_with nat_eq word (codes "-")
    then option_map negated (digits_of 10 10 (2 ^ 31 + 1) (drop 1 word))
    else None
