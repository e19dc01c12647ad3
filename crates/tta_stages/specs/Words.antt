-- The words of the lines.
use Rattle.std.specs.Prelude.{ℕ, Bool, if◌then◌else◌, List, [], ◌++◌, slice_get, codes, decimal}
use Rattle.std.specs.Option.{option_map_or}
use Rattle.std.specs.List.{flat_map}
use Rattle.tta_stages.specs.Cited.{Machine, Place, Frame, RSrc, At, Word, file_name, place_text}
use Rattle.tta_lir.specs.declared.code.Place.TheVariants.{Reg}

-- a number, and what it counts before it
abbrev pub count_text : (what : List ℕ) → ℕ → List ℕ
count_text what n = what ++ decimal n

-- the name of a block of code
abbrev pub block_name : ℕ → List ℕ
block_name k = count_text (codes "b") k

-- the name of a variable with a blank before it, where something holds
abbrev pub var_if : Bool → ℕ → List ℕ
var_if test k = if test then count_text (codes " v") k else []

-- a register, by its file and its index
abbrev pub pair_text : Machine → ℕ × ℕ → List ℕ
pair_text m r = place_text (file_name m r.0) r.1

-- registers, each with a blank before it
abbrev pub pairs_text : Machine → List (ℕ × ℕ) → List ℕ
pairs_text m rs = flat_map (λ r. codes " " ++ pair_text m r) rs

module _ (m : Machine) (homes : List (ℕ × ℕ)) where
  -- a home register, as the register of the machine that it is
  abbrev pub home_text : ℕ → List ℕ
  home_text k = option_map_or (pair_text m) (slice_get homes k) []

  -- where a word is kept: a register of the machine, or a slot of the frame space
  abbrev pub kept_text : Place → List ℕ
  kept_text (Reg k) = home_text k
  kept_text (Frame slot) = count_text (codes "slot.") slot

  -- an operand
  abbrev pub source_text : RSrc → List ℕ
  source_text (At place) = kept_text place
  source_text (Word word) = decimal word

  -- the same with a blank before it
  abbrev pub operand_text : RSrc → List ℕ
  operand_text s = codes " " ++ source_text s
