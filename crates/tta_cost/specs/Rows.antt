-- Registers that stand in a row.
use Rattle.std.specs.Prelude.{ℕ, List, map}
use Rattle.tta_arch.specs.declared.parts.File.{File}
use Rattle.tta_arch.specs.declared.parts.ImmUnit.{ImmUnit}
use Rattle.tta_cost.specs.Cited.{numbers, KeptReg, KeptImm, Keeps, IsDue, Due, Underway}
use Rattle.tta_hardware.specs.Signals.{Signal as Named}
use Rattle.tta_cost.specs.declared.parts.Part.{Part}
use Rattle.tta_cost.specs.declared.parts.Part.TheVariants as part
use Rattle.tta_cost.specs.declared.rows.Row.{Row}
use Rattle.tta_cost.specs.declared.rows.Row.TheVariants as row

-- a register of a row, by its number
abbrev pub named : Row → ℕ → Named
named (row.File file) n = Keeps (KeptReg file n)
named (row.Immediate unit) n = Keeps (KeptImm unit n)
named (row.IsDue unit) n = IsDue unit n
named (row.Due unit) n = Due unit n
named row.Underway n = Underway n

-- the part to which a row belongs
abbrev pub part_of_row : Row → Part
part_of_row (row.File file) = part.Files
part_of_row (row.Immediate unit) = part.Immediates
part_of_row (row.IsDue unit) = part.Results
part_of_row (row.Due unit) = part.Results
part_of_row row.Underway = part.Control

-- the registers of a file with its number, and of an immediate unit
abbrev pub file_row : ℕ × File → List Named
file_row f = map (named (row.File f.0)) (numbers f.1.size)

abbrev pub imm_row : ℕ × ImmUnit → List Named
imm_row i = map (named (row.Immediate i.0)) (numbers i.1.size)
