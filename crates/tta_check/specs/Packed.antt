-- A place with what may hold of it, as an abstract state keeps it: in a few bytes.
use Rattle.std.specs.Prelude.{ℕ, ◌==◌, Bool, if◌then◌else◌, List, Option, Some, None}
use Rattle.std.specs.Int.{w32, from_le_bytes}
use Rattle.tta_check.specs.declared.values.ValueSet.{ValueSet}
use Rattle.tta_check.specs.declared.values.ValueSet.TheVariants.{Nothing, One, Two}
use Rattle.tta_check.specs.declared.location.Location.{Location}
use Rattle.tta_check.specs.declared.location.Location.TheVariants.{Reg, Imm, Operand, Ra}
use Rattle.tta_check.specs.declared.state.Kept.{Kept}

-- ---- locations

-- the kind of a location, as a number below 4
abbrev pub kind_of : Location → ℕ
kind_of (Reg file index) = 0
kind_of (Imm unit index) = 1
kind_of (Operand unit) = 2
kind_of Ra = 3

-- the file or unit that a location belongs to
abbrev pub owner_of : Location → ℕ
owner_of (Reg file index) = file
owner_of (Imm unit index) = unit
owner_of (Operand unit) = unit
owner_of Ra = 0

-- its number there
abbrev pub index_of : Location → ℕ
index_of (Reg file index) = index
index_of (Imm unit index) = index
index_of (Operand unit) = 0
index_of Ra = 0

-- the location of these three numbers
abbrev pub location_by : (kind owner index : ℕ) → Location
location_by kind owner index = if kind == 0 then Reg owner index else if kind == 1 then Imm owner index else if kind == 2 then Operand owner else Ra

-- ---- words

-- how many words are kept and which of them are known, as a number below 7
abbrev pub shape_of : ValueSet → ℕ
shape_of Nothing = 0
shape_of (One None) = 1
shape_of (One (Some a)) = 2
shape_of (Two None None) = 3
shape_of (Two None (Some b)) = 4
shape_of (Two (Some a) None) = 5
shape_of (Two (Some a) (Some b)) = 6

-- a word, or 0 where it is not known
abbrev pub known_or_zero : Option ℕ → ℕ
known_or_zero None = 0
known_or_zero (Some a) = a

-- the first of the words
abbrev pub first_of : ValueSet → ℕ
first_of Nothing = 0
first_of (One a) = known_or_zero a
first_of (Two a b) = known_or_zero a

-- the second of them
abbrev pub second_of : ValueSet → ℕ
second_of Nothing = 0
second_of (One a) = 0
second_of (Two a b) = known_or_zero b

-- the words of these three numbers
abbrev pub values_by : (shape first second : ℕ) → ValueSet
values_by shape a b =
    if shape == 0 then Nothing
    else if shape == 1 then One None
    else if shape == 2 then One (Some a)
    else if shape == 3 then Two None None
    else if shape == 4 then Two None (Some b)
    else if shape == 5 then Two (Some a) None
    else Two (Some a) (Some b)

-- ---- both

-- what is kept of a place, by its kind, whether it may be unset, its shape, and the bytes of its owner, index and words
abbrev pub kept_by : (kind : ℕ) (unset : Bool) (shape owner index : ℕ) → (one two : List ℕ) → Kept
kept_by kind unset shape owner index one two = record {
  at = location_by kind owner index;
  cell = record { unset = unset; values = values_by shape (from_le_bytes w32 one) (from_le_bytes w32 two) };
}
