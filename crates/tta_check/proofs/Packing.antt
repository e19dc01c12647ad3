-- What is packed is what is read again.
use Rattle.std.proofs.Common.{◌≡◌, ◌<◌, ◌^◌, ℕ, ◌==◌, ◌/◌, ◌%◌, Some, None, refl, arith}
use Rattle.std.specs.Int.{w32, to_le_bytes, from_le_bytes}
use Rattle.tta_check.specs.declared.values.ValueSet.{ValueSet}
use Rattle.tta_check.specs.declared.values.ValueSet.TheVariants.{Nothing, One, Two}
use Rattle.tta_check.specs.declared.location.Location.{Location}
use Rattle.tta_check.specs.declared.location.Location.TheVariants.{Reg, Imm, Operand, Ra}
use Rattle.tta_check.specs.declared.state.Cell.{Cell}
use Rattle.tta_check.specs.Packed.{kind_of, owner_of, index_of, location_by, shape_of, first_of, second_of, values_by, kept_by}

-- the bytes of a word are read to the word
word_back : (n : ℕ) → n < 2 ^ 32 → from_le_bytes w32 (to_le_bytes w32 n) ≡ n
word_back n small = omega (arith, small)

-- the numbers of a location are those of that location
location_back : (s : Location) → location_by (kind_of s) (owner_of s) (index_of s) ≡ s
location_back (Reg file index) = refl
location_back (Imm unit index) = refl
location_back (Operand unit) = refl
location_back Ra = refl

-- and so for words
values_back : (h : ValueSet) → values_by (shape_of h) (first_of h) (second_of h) ≡ h
values_back Nothing = refl
values_back (One None) = refl
values_back (One (Some a)) = refl
values_back (Two None None) = refl
values_back (Two None (Some b)) = refl
values_back (Two (Some a) None) = refl
values_back (Two (Some a) (Some b)) = refl

-- what a place and its cell are packed to keeps them
pub unpacked : (at : Location) (cell : Cell) (tag : ℕ) → tag / 16 ≡ kind_of at → (tag / 8 % 2 == 1) ≡ cell.unset → tag % 8 ≡ shape_of cell.values
    → first_of cell.values < 2 ^ 32 → second_of cell.values < 2 ^ 32
    → kept_by (tag / 16) (tag / 8 % 2 == 1) (tag % 8) (owner_of at) (index_of at) (to_le_bytes w32 (first_of cell.values)) (to_le_bytes w32 (second_of cell.values))
    ≡ record { at = at; cell = cell }
unpacked at cell tag kind unset shape one two =
    rw (kind, unset, shape, word_back (first_of cell.values) one, word_back (second_of cell.values) two, location_back at, values_back cell.values) refl
