-- A long division of words, one digit after another.
use Rattle.std.specs.Prelude.{ℕ, zero, suc, ◌+◌, ◌-◌, ◌*◌, ◌/◌, ◌%◌, ◌^◌, Bool, not, nat_lt, if◌then◌else◌}
use Rattle.tta_op_circuits.specs.Cited.{bit}

-- The middle of a division: the rest of the digits that were read, and a word with those of the dividend that were not
-- at its top, and those of the quotient at its bottom.
pub record Partial : Type 0 where
  pub rest : ℕ
  pub digits : ℕ

-- before the first digit
abbrev pub begun : (a : ℕ) → Partial
begun a = record { rest = 0; digits = a }

-- the rest with the next digit of the dividend
abbrev pub brought : Partial → ℕ
brought p = p.rest * 2 + p.digits / 2 ^ 31

-- the rest once the divisor was taken from it, where it is not less
abbrev pub rest_of : (less : Bool) → (brought by : ℕ) → ℕ
rest_of less brought by = if less then brought else brought - by

-- one digit more
abbrev pub with_digit : (by : ℕ) → Partial → Partial
with_digit by p =
    let less : Bool = nat_lt (brought p) by in
    record { rest = rest_of less (brought p) by; digits = p.digits % 2 ^ 31 * 2 + bit (not less) }

-- so many digits more
unfoldable pub with_digits : (count by : ℕ) → Partial → Partial
with_digits zero by p = p
with_digits (suc n) by p = with_digits n by (with_digit by p)
