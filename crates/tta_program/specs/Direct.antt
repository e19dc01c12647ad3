-- Programs of main alone that only output constants and halt.
use Rattle.std.specs.Prelude.{ℕ, Bool, true, false, List, [], ◌∷◌}
use Rattle.tta_program.specs.declared.operand.Src.TheVariants.{Word}
use Rattle.tta_program.specs.declared.step.Step.{Step}
use Rattle.tta_program.specs.declared.step.Step.TheVariants.{Put, Halt, End}
use Rattle.tta_program.specs.declared.program.Proc.{Proc}
use Rattle.tta_program.specs.declared.program.DataLine.{DataLine}
use Rattle.tta_program.specs.Program.{Program}

-- whether the steps before `end` only output constants and halt
abbrev pub only_constants : List Step → Bool
only_constants (Put (Word w) ∷ steps) = only_constants steps
only_constants (Halt ∷ steps) = only_constants steps
only_constants (End ∷ []) = true
only_constants steps = false

-- the constants that a run outputs
abbrev pub puts : List Step → List ℕ
puts (Put (Word w) ∷ steps) = w ∷ puts steps
puts steps = []

-- a program of one procedure
abbrev pub alone : Proc → List DataLine → Program
alone q init = record { procs = q ∷ []; main = 0; init = init }
