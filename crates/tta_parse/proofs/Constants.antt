-- The values of constants are words.
use Rattle.std.proofs.Common.{◌≡◌, ℕ, ◌^◌, true, List, Some, refl}
use Rattle.std.specs.Prelude.{nat_lt}
use Rattle.tta_parse.specs.Cited.{Kind, Number, Negative}
use Rattle.tta_text.proofs.Limits.{under, number_under, negative_under, is_under}
use Rattle.tta_parse.specs.Words.{value_of, constant_of}

-- the value of a constant, and of a number
pub constant_under : (kind : Kind) (text : List ℕ) → under (2 ^ 32) (constant_of (record { kind = kind; text = text }))
constant_under Number text = number_under text
constant_under Negative text = negative_under text
constant_under kind text = refl

pub plain_under : (kind : Kind) (text : List ℕ) → under (2 ^ 32) (value_of (record { kind = kind; text = text }))
plain_under Number text = number_under text
plain_under kind text = refl

-- the value of a constant is a word
pub constant_word : (kind : Kind) (text : List ℕ) (n : ℕ) → constant_of (record { kind = kind; text = text }) ≡ Some n → nat_lt n (2 ^ 32) ≡ true
constant_word kind text n e = is_under (2 ^ 32) n (constant_of (record { kind = kind; text = text })) (constant_under kind text) e
