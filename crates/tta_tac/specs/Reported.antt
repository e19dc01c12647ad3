-- What the second pass makes, and reports.
use Rattle.std.specs.Prelude.{◌≡◌, ℕ, List, Some, None, slice_get, Result, Ok, Err}
use Rattle.std.specs.Option.{option_map_or}
use Rattle.tta_tac.specs.Cited.{lines_of, LineError, Units, Proc, Program}
use Rattle.tta_parse.specs.declared.line_error.LineError.TheVariants as line_error
use Rattle.tta_tac.specs.declared.refusal.Refusal.{Refusal}
use Rattle.tta_tac.specs.declared.refusal.Refusal.TheVariants.{Recursive}
use Rattle.tta_tac.specs.declared.refusal.TacError.{TacError}
use Rattle.tta_tac.specs.declared.refusal.TacError.TheVariants as tac_error
use Rattle.tta_tac.specs.Refusals.{code_of}
use Rattle.tta_tac.specs.Draft.{Draft, nothing}
use Rattle.tta_tac.specs.SecondPass.{Refused}
use Rattle.tta_tac.specs.Text.{take_lines, IsFirstRecursive, ProgramText, HasCause}

-- what was made is what the definition says, or it was refused as it says, or there was no memory
abbrev pub Links : {A E : Type 0} → Result A (LineError E) → Result A E → Type 0
Links (Ok x) said = said ≡ Ok x
Links (Err (line_error.Refused e)) said = said ≡ Err e
Links (Err line_error.NoMemory) said = Unit {0}

-- what was made is what the definition says; a refusal is reported with its line and number; or there was no memory
abbrev pub Reports : {A : Type 0} → Result A TacError → Result A Refused → Type 0
Reports (Ok x) said = said ≡ Ok x
Reports (Err (tac_error.Refused line code)) said = (refusal : Refusal) × (code ≡ code_of refusal) × (said ≡ Err (line, refusal))
Reports (Err tac_error.NoMemory) said = Unit {0}

-- all lines of a text were read, and made this draft
abbrev pub IsDraftOf : Draft → Units → List ℕ → Type 0
IsDraftOf d u text = take_lines u 1 nothing (lines_of text) ≡ Ok d

-- the second pass makes the program of each text that made the draft
abbrev pub MakesProgram : Draft → Program → Type 0
MakesProgram d p = (u : Units) (text : List ℕ) → IsDraftOf d u text → ProgramText u text p

-- or reports why each such text is refused
abbrev pub ReportsCause : Draft → TacError → Type 0
ReportsCause d e = (u : Units) (text : List ℕ) → IsDraftOf d u text → HasCause u text e

-- calls lead back: reported with the line of the first procedure that they lead back to; or there was no memory
abbrev pub LeadsBack : Draft → List Proc → TacError → Type 0
LeadsBack d procs (tac_error.Refused line code) =
    (code ≡ code_of Recursive) × ((k : ℕ) × IsFirstRecursive procs k × (option_map_or (λ q. Some q.line) (slice_get d.procs k) None ≡ Some line))
LeadsBack d procs tac_error.NoMemory = Unit {0}
