-- Where the words of registers and operand ports are kept.
use Rattle.std.specs.Prelude.{◌≡◌, ℕ, ◌+◌, ◌*◌, Bool, true, false, ◌&&◌, nat_lt, List, Option, None, slice_index_or, IsTrue}
use Rattle.tta_sim.specs.Cited.{Place, KeptReg, KeptImm, KeptOperand, KeptRa, KeptPort, Written, kept}

-- a place that a machine can have: one of the 64 registers of 8 files, one of the 16 registers of 4 immediate units,
-- the operand port of one of 32 units, or the return address
abbrev pub is_place : Place → Bool
is_place (KeptReg file index) = nat_lt file 8 && nat_lt index 64
is_place (KeptImm unit index) = nat_lt unit 4 && nat_lt index 16
is_place (KeptOperand unit) = nat_lt unit 32
is_place KeptRa = true
is_place (KeptPort unit) = false

-- how many places there are in a row
abbrev pub place_count : ℕ
place_count = 609

-- the places in a row: the registers file by file, then the immediate registers, the operand ports and the return address
abbrev pub number_of : Place → ℕ
number_of (KeptReg file index) = file * 64 + index
number_of (KeptImm unit index) = 512 + unit * 16 + index
number_of (KeptOperand unit) = 576 + unit
number_of KeptRa = 608
number_of (KeptPort unit) = place_count

-- the word of a place, if one was ever written
abbrev pub word_at : List (Option ℕ) → Place → Option ℕ
word_at words p = slice_index_or words (number_of p) None

-- a row has the word that was written last into each place
abbrev pub HasWritten : List (Option ℕ) → Written → Type 0
HasWritten words written = (p : Place) → IsTrue (is_place p) → word_at words p ≡ kept written p
