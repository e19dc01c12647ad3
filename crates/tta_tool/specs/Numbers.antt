-- The numbers among the words of a command.
use Rattle.std.specs.Prelude.{ℕ, ◌^◌, ◌==◌, if◌then◌else◌, List, Option, Some, None, option_and_then}
use Rattle.tta_tool.specs.Cited.{digits_of}

-- the seed of a sample: one to ten decimal digits below 2 ^ 32
abbrev pub seed_of : List ℕ → Option ℕ
seed_of word = digits_of 10 10 (2 ^ 32) word

-- a number that is not 0
abbrev pub not_none : ℕ → Option ℕ
not_none n = if n == 0 then None else Some n

-- how many body lines a sample has: one to five decimal digits with a value from 1 to 20,000
abbrev pub lines_of : List ℕ → Option ℕ
lines_of word = option_and_then not_none (digits_of 10 5 20001 word)
