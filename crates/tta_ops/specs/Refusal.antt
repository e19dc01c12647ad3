-- Which operation is refused, walking the operations in their order.
use Rattle.std.specs.Prelude.{ℕ, ◌≡◌, List, [], ◌∷◌, ◌++◌, if◌then◌else◌, Option, Some, None, Result, Ok, Err, is_some}
use Rattle.std.specs.Option.{option_or}
use Rattle.tta_ops.specs.declared.error.OpsError.{OpsError}
use Rattle.tta_ops.specs.declared.error.OpsError.TheVariants.{Twice, Reserved, NoMemory}
use Rattle.tta_ops.specs.Reserved.{is_reserved}
use Rattle.tta_ops.specs.Row.{Row}
use Rattle.tta_ops.specs.Units.{first_at}

-- why an operation is refused, where operations of these names came before it
abbrev pub refusal_of : List (List ℕ) → Row → Option OpsError
refusal_of before row =
    if is_reserved row.name then Some (Reserved row.place.unit row.place.index)
    else if is_some (first_at row.name 0 before) then Some (Twice row.place.unit row.place.index)
    else None

-- the first refusal of a walk, where operations of these names came before it
abbrev pub first_refusal : List (List ℕ) → List Row → Option OpsError
first_refusal before [] = None
first_refusal before (row ∷ rows) =
    option_or (refusal_of before row) (first_refusal (before ++ row.name ∷ []) rows)

-- an error is the walk's first refusal, or lack of memory, which may come at any time
abbrev pub IsCause : Option OpsError → OpsError → Type 0
IsCause refusal NoMemory = Unit {0}
IsCause refusal (Twice unit index) = refusal ≡ Some (Twice unit index)
IsCause refusal (Reserved unit index) = refusal ≡ Some (Reserved unit index)

-- a call succeeds only where the walk has no refusal, and else reports that refusal
abbrev pub IsWalkResult : {T : Type 0} → Option OpsError → Result T OpsError → Type 0
IsWalkResult refusal (Ok _) = refusal ≡ None
IsWalkResult refusal (Err error) = IsCause refusal error
