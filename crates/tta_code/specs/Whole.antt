-- Code with the data that it begins with.
use Rattle.std.specs.Prelude.{ℕ, ◌+◌, Bool, true, ◌&&◌, nat_le, nat_lt, ◌^◌, List, [], ◌∷◌, map}
use Rattle.std.specs.List.{list_all}
use Rattle.tta_code.specs.Cited.{Laid}
use Rattle.tta_code.specs.declared.code.Code.{Code}
use Rattle.tta_code.specs.declared.whole.Datum.{Datum}

-- the code of a machine, and words for its data space at first
pub record Whole : Type 0 where
  pub code : Code
  pub init : List Datum

-- a datum as a word with its address
abbrev pub word_of : Datum → ℕ × ℕ
word_of d = (d.address, d.value)

-- the words that data lay over the data space
abbrev pub laid_by : List Datum → Laid
laid_by init = map word_of init

-- the words that the data of a whole lay over the data space
abbrev pub data_in : Whole → Laid
data_in whole = laid_by whole.init

-- whether each address is above the one before it, and the first is no less than a number
abbrev pub rises_from : (least : ℕ) → List Datum → Bool
rises_from least [] = true
rises_from least (d ∷ ds) = nat_le least d.address && rises_from (d.address + 1) ds

-- whether each address is above the one before it
abbrev pub rises : List Datum → Bool
rises init = rises_from 0 init

-- whether data fit into a data space of so many words: each address is one of them, and each value is a word
abbrev pub fits : (words : ℕ) → List Datum → Bool
fits words init = list_all (λ d. nat_lt d.address words && nat_lt d.value (2 ^ 32)) init
