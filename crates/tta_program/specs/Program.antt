-- What a program is made of.
use Rattle.std.specs.Prelude.{ℕ, nat_lt, if◌then◌else◌, List, [], ◌∷◌, length, map, Option, Some, None}
use Rattle.std.specs.List.{sum_by}
use Rattle.tta_list.specs.Laid.{Laid}
use Rattle.tta_program.specs.declared.program.Proc.{Proc}
use Rattle.tta_program.specs.declared.program.DataLine.{DataLine}

-- procedures in the order of the text, the one that a run begins with, and what the data memory has at first
pub record Program : Type 0 where
  pub procs : List Proc
  pub main : ℕ
  pub init : List DataLine

-- how many steps a program has
abbrev pub step_count : Program → ℕ
step_count p = sum_by (λ q. length q.steps) p.procs

-- ---- data

-- a line of data as a word with its address
abbrev pub datum_of : DataLine → ℕ × ℕ
datum_of d = (d.address, d.value)

-- the words that a program lays over its data memory
abbrev pub data_of : Program → Laid
data_of p = map datum_of p.init

-- the line of the first datum whose address is not below a number, if there is one
abbrev pub first_outside : (words : ℕ) → List DataLine → Option ℕ
first_outside words [] = None
first_outside words (d ∷ ds) = if nat_lt d.address words then first_outside words ds else Some d.line
