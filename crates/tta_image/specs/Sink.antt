-- A bit as a number.
use Rattle.std.specs.Prelude.{ℕ, Bool, true, false}

-- 1 for a bit that is set, and 0 for one that is not
abbrev pub bit_value : Bool → ℕ
bit_value true = 1
bit_value false = 0
