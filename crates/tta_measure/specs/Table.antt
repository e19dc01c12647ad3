-- How many units of depth each kind of part counts. One choice between two words is one unit.
use Rattle.std.specs.Prelude.{ℕ}

-- a choice between two words by a test
abbrev pub choice_depth : ℕ
choice_depth = 1

-- a gate of two words, bit by bit, or of two tests; an inverter is part of what it leads to
abbrev pub gate_depth : ℕ
gate_depth = 1

-- whether two words are equal
abbrev pub equal_depth : ℕ
equal_depth = 2

-- a sum, a difference, or which of two words is less: carries go through all bits
abbrev pub sum_depth : ℕ
sum_depth = 4

-- a shift by a word: a choice for each bit of the distance
abbrev pub shift_depth : ℕ
shift_depth = 5

-- a product
abbrev pub product_depth : ℕ
product_depth = 10

-- a quotient or a rest: a difference and a choice for each bit
abbrev pub quotient_depth : ℕ
quotient_depth = 160

-- a word of a memory
abbrev pub read_depth : ℕ
read_depth = 4
