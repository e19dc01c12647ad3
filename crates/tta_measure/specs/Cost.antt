-- What is counted of a circuit: bits of registers, choices, and the longest path.
use Rattle.std.specs.Prelude.{ℕ, ◌+◌, ◌-◌, ◌^◌, min, max}
use Rattle.tta_measure.specs.declared.cost.Cost.{Cost}
use Rattle.tta_measure.specs.Table.{choice_depth}

-- A sum, but no more than the greatest number that a word of 64 bits has: a number that is told below that one is the sum itself.
unfoldable pub plus : ℕ → ℕ → ℕ
plus a b = min (a + b) (2 ^ 64 - 1)

-- what costs nothing: a constant, or a signal that is there when the clock comes
abbrev pub free : Cost
free = record { bits = 0; choices = 0; depth = 0 }

-- a signal that is there after so many units
unfoldable pub at : (depth : ℕ) → Cost
at depth = record { bits = 0; choices = 0; depth = depth }

-- two parts beside each other: what they are made of adds up, and the longer of their paths is the longest
unfoldable pub beside : Cost → Cost → Cost
beside a b = record { bits = plus a.bits b.bits; choices = plus a.choices b.choices; depth = max a.depth b.depth }

-- a part of so many units behind others
unfoldable pub behind : (depth : ℕ) → Cost → Cost
behind depth a = record { bits = a.bits; choices = a.choices; depth = plus a.depth depth }

-- a choice between two words of so many bits behind others: as many choices between two bits
unfoldable pub chosen : (width : ℕ) → Cost → Cost
chosen width a = record { bits = a.bits; choices = plus a.choices width; depth = plus a.depth choice_depth }

-- a register of so many bits behind others
unfoldable pub held : (width : ℕ) → Cost → Cost
held width a = record { bits = plus a.bits width; choices = a.choices; depth = a.depth }
