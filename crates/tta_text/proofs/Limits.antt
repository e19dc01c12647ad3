-- The values of numbers and of negatives are words.
use Rattle.std.proofs.Common.{◌≡◌, ℕ, ◌+◌, ◌^◌, Bool, true, false, List, length, drop, Option, Some, None, refl, sym, ◌∙◌, ap}
use Rattle.std.specs.Prelude.{◌&&◌, nat_lt, nat_le, nat_eq, if◌then◌else◌, option_map, codes}
use Rattle.std.specs.Option.{option_map_or}
use Rattle.std.specs.List.{list_all, starts_with}
use Rattle.std.specs.Char.{is_digit}
use Rattle.std.specs.Str.Parse.{digits_value}
use Rattle.tta_text.specs.Numbers.{value_below, digits_of, number_of, negated, negative_of}
use Rattle.tta_text.proofs.ShownWords.{negated_under}

-- whether a value is below a limit, where there is one
abbrev pub under : ℕ → Option ℕ → Type 0
under limit o = option_map_or (λ n. nat_lt n limit) o true ≡ true

-- the value of digits, of a number and of a negative
pub value_under : (base limit : ℕ) (digits : List ℕ) → under limit (value_below base limit digits)
unfolding value_below
value_under base limit digits = by (list_all (λ digit. is_digit digit base) digits) (nat_lt (digits_value base digits) limit) refl where
  by : (a b : Bool) → nat_lt (digits_value base digits) limit ≡ b → under limit (if a && b then Some (digits_value base digits) else None)
  by true true e = e
  by true false e = refl
  by false b e = refl

pub digits_under : (base most limit : ℕ) (digits : List ℕ) → under limit (digits_of base most limit digits)
unfolding digits_of
digits_under base most limit digits = by (nat_lt 0 (length digits) && nat_le (length digits) most) where
  by : (t : Bool) → under limit (if t then value_below base limit digits else None)
  by true = value_under base limit digits
  by false = refl

pub number_under : (word : List ℕ) → under (2 ^ 32) (number_of word)
unfolding number_of
number_under word = by (starts_with nat_eq word (codes "0x")) where
  by : (t : Bool) → under (2 ^ 32) (if t then digits_of 16 8 (2 ^ 32) (drop 2 word) else digits_of 10 10 (2 ^ 32) word)
  by true = digits_under 16 8 (2 ^ 32) (drop 2 word)
  by false = digits_under 10 10 (2 ^ 32) word

pub negative_under : (word : List ℕ) → under (2 ^ 32) (negative_of word)
unfolding negative_of
negative_under word = by (starts_with nat_eq word (codes "-")) where
  some : (o : Option ℕ) → under (2 ^ 32) (option_map negated o)
  some None = refl
  some (Some m) = negated_under m

  by : (t : Bool) → under (2 ^ 32) (if t then option_map negated (digits_of 10 10 (2 ^ 31 + 1) (drop 1 word)) else None)
  by true = some (digits_of 10 10 (2 ^ 31 + 1) (drop 1 word))
  by false = refl

-- a value below a limit
pub is_under : (limit n : ℕ) (o : Option ℕ) → under limit o → o ≡ Some n → nat_lt n limit ≡ true
is_under limit n None h e = cc
is_under limit n (Some k) h e = let same : k ≡ n = cc in ap (λ x. nat_lt x limit) (sym same) ∙ h
