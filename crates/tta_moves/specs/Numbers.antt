-- A number for each place of a machine, for tables with an entry a place.
use Rattle.std.specs.Prelude.{ℕ, ◌+◌, ◌*◌, Bool, true, ◌&&◌, nat_lt}
use Rattle.tta_moves.specs.Cited.{Place, KeptReg, KeptImm, KeptOperand, KeptRa, KeptPort}

-- the 8 files have 64 registers at most, the 4 immediate units 16; there are at most 32 units
abbrev pub place_number : Place → ℕ
place_number (KeptReg file index) = 64 * file + index
place_number (KeptImm unit index) = 512 + 16 * unit + index
place_number (KeptOperand unit) = 576 + unit
place_number (KeptPort unit) = 608 + unit
place_number KeptRa = 640

-- whether a place is within these limits
abbrev pub is_place : Place → Bool
is_place (KeptReg file index) = nat_lt file 8 && nat_lt index 64
is_place (KeptImm unit index) = nat_lt unit 4 && nat_lt index 16
is_place (KeptOperand unit) = nat_lt unit 32
is_place (KeptPort unit) = nat_lt unit 32
is_place KeptRa = true
