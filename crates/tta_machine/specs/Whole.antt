-- What becomes of a text as a whole.
use Rattle.std.specs.Prelude.{◌≡◌, ℕ, List, Some, None, Result, Ok, Err}
use Rattle.tta_machine.specs.Cited.{Line, Units, Template, Machine}
use Rattle.tta_machine.specs.declared.refusal.Refusal.{Refusal}
use Rattle.tta_machine.specs.declared.refusal.Refusal.TheVariants.{TooNarrow}
use Rattle.tta_machine.specs.declared.refusal.MachineError.{MachineError}
use Rattle.tta_machine.specs.declared.refusal.MachineError.TheVariants as machine_error
use Rattle.tta_machine.specs.declared.draft.Draft.{Draft}
use Rattle.tta_machine.specs.Draft.{nothing, code_of}
use Rattle.tta_machine.specs.Text.{take_lines, narrow_line, complete}
use Rattle.tta_machine.specs.Kept.{IsDraft}

-- all lines were taken, and the rules of drafts hold
pub record TakesAll (u : Units) (lines : List Line) (d : Draft) : Type 0 where
  pub taken : take_lines u 1 nothing lines ≡ Ok d
  pub kept : IsDraft d

-- a line was refused with this number
pub record RefusesLine (u : Units) (lines : List Line) (line code : ℕ) : Type 0 where
  pub refusal : Refusal
  pub refused : take_lines u 1 nothing lines ≡ Err (line, refusal)
  pub told : code ≡ code_of refusal

-- the lines of a text were taken, or one was refused, or there was no memory
abbrev pub DraftEnds : Units → List Line → Result Draft MachineError → Type 0
DraftEnds u lines (Ok d) = TakesAll u lines d
DraftEnds u lines (Err (machine_error.Refused line code)) = RefusesLine u lines line code
DraftEnds u lines (Err machine_error.NoMemory) = Unit {0}

-- the lines of a text say nothing more, and this is refused of what they declare
pub record RefusesDraft (d : Draft) (line code : ℕ) : Type 0 where
  pub refusal : Refusal
  pub refused : complete d ≡ Err (line, refusal)
  pub told : code ≡ code_of refusal

-- what is declared is a machine, or something is refused of it, or there was no memory
abbrev pub CompleteEnds : Draft → Result Machine MachineError → Type 0
CompleteEnds d (Ok m) = complete d ≡ Ok m
CompleteEnds d (Err (machine_error.Refused line code)) = RefusesDraft d line code
CompleteEnds d (Err machine_error.NoMemory) = Unit {0}

-- every template is wide enough, or the first that is not is reported, or there was no memory
abbrev pub WidthsEnd : Machine → List Template → (lines : List ℕ) → Result (Unit {0}) MachineError → Type 0
WidthsEnd m templates lines (Ok x) = narrow_line m templates lines ≡ None
WidthsEnd m templates lines (Err (machine_error.Refused line code)) =
    (narrow_line m templates lines ≡ Some line) × (code ≡ code_of TooNarrow)
WidthsEnd m templates lines (Err machine_error.NoMemory) = Unit {0}
