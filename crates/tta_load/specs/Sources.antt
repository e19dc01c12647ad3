-- Files that hold a program, whatever machine it is for.
use Rattle.std.specs.Prelude.{ℕ, List}
use Rattle.tta_load.specs.Cited.{Units}
use Rattle.tta_load.specs.declared.status.Status.{Status}
use Rattle.tta_load.specs.declared.status.Status.TheVariants as status
use Rattle.tta_load.specs.Programs.{IsBadProgram}

-- why a text gives no program
abbrev pub RefusesSource : Units → (text : List ℕ) → Status → Type 0
RefusesSource u text (status.BadProgram line code) = IsBadProgram u text line code
RefusesSource u text status.NoMemory = Unit {0}
RefusesSource u text s = ⊥
