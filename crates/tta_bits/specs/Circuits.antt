-- The operations of the unit as circuits. Divisions hand in none.
use Rattle.std.specs.Prelude.{ℕ, zero, suc, ◌+◌, ◌-◌, ◌^◌, if◌then◌else◌, nat_eq, Option, Some, None}
use Rattle.tta_bits.specs.Cited.{Expr, Const, Signal, Slice, Join, Select, Below, Plus, Left, Port, Inner, Worked, plain, a, b, lifted_word, amount, with_wire}

-- a word turned to the left: its upper half, where it stands twice
abbrev pub turned_left : Worked
turned_left = with_wire 64 (Left 64 (Join 32 a a) amount) (Slice 32 32 (Signal (Inner 0)))

-- the zeros above the highest of the low k bits of b that is set, and those above these bits
unfoldable pub zeros_above : ℕ → Expr Port ⊥
zeros_above zero = Const 6 32
zeros_above (suc k) = Select (Slice k 1 b) (Const 6 (31 - k)) (zeros_above k)

-- a number of 6 bits as a word
abbrev pub from_six : Expr Port ⊥ → Expr Port ⊥
from_six e = Join 6 (Const 26 0) e

-- how many of so many bits of b, from one on, are set
unfoldable pub ones_from : (count first : ℕ) → Expr Port ⊥
ones_from zero first = Const 6 0
ones_from (suc n) first = Plus 6 (Join 1 (Const 5 0) (Slice first 1 b)) (ones_from n (first + 1))

-- bits of b in the other order, below some that stand already
unfoldable pub reversed_onto : (count first : ℕ) → Expr Port ⊥ → Expr Port ⊥
reversed_onto zero first done = done
reversed_onto (suc n) first done = reversed_onto n (first + 1) (Join 1 done (Slice first 1 b))

-- so many bits like the top one of the low bits of b
abbrev pub sign_bits : (bits : ℕ) → Expr Port ⊥
sign_bits bits = Select (Slice (bits - 1) 1 b) (Const (32 - bits) (2 ^ (32 - bits) - 1)) (Const (32 - bits) 0)

-- the low bits of b as a signed number
abbrev pub extended_word : (bits : ℕ) → Expr Port ⊥
extended_word bits = Join bits (sign_bits bits) (Slice 0 bits b)

-- the lesser number of a and b, and the greater
abbrev pub lesser_word : Expr Port ⊥
lesser_word = Select (Below (lifted_word b) (lifted_word a)) b a

abbrev pub greater_word : Expr Port ⊥
greater_word = Select (Below (lifted_word a) (lifted_word b)) b a

-- the zeros above the highest bit of b that is set, how many bits of b are set, and the bits of b in the other order
abbrev pub counted_zeros : Expr Port ⊥
counted_zeros = from_six (zeros_above 32)

abbrev pub counted_ones : Expr Port ⊥
counted_ones = from_six (ones_from 32 0)

abbrev pub reversed : Expr Port ⊥
reversed = reversed_onto 31 1 (Slice 0 1 b)

-- the circuits, by the numbers of their operations
abbrev pub bits_circuit : ℕ → Option Worked
bits_circuit i =
    if nat_eq i 0 then Some turned_left
    else if nat_eq i 1 then Some (plain counted_zeros)
    else if nat_eq i 2 then Some (plain counted_ones)
    else if nat_eq i 3 then Some (plain reversed)
    else if nat_eq i 4 then Some (plain (extended_word 8))
    else if nat_eq i 5 then Some (plain (extended_word 16))
    else if nat_eq i 6 then None
    else if nat_eq i 7 then None
    else if nat_eq i 8 then Some (plain lesser_word)
    else if nat_eq i 9 then Some (plain greater_word)
    else None
