-- Texts of cores with the functions of operations in the place of the lines that include their files.
use Rattle.std.specs.Prelude.{◌≡◌, ℕ, zero, suc, ◌==◌, Bool, true, false, if◌then◌else◌, List, [], ◌∷◌, ◌++◌, codes, Option, Some, None, option_map}
use Rattle.std.specs.Str.{bytes_eq}
use Rattle.tta_own_circuits.specs.Cited.{Worked, NothingOutput, Output, Status, TextEnds, no_memory}
use Rattle.tta_load.specs.declared.status.Status.TheVariants as status
use Rattle.tta_own_circuits.specs.Texts.{function_of}

-- the line that includes the file of an operation
unfoldable pub include_line : (name : List ℕ) → List ℕ
include_line name = codes "`include \"" ++ (name ++ codes ".v\"")

-- what stands in the place of a line: a function, if there is one, or else the line
abbrev pub or_line : Option (List ℕ) → (line : List ℕ) → List ℕ
or_line (Some text) line = text
or_line None line = line ++ codes "\n"

-- whether a text was put, where there is one
abbrev pub IsPutIfAny : Option (List ℕ) → (put : Bool) → (old new : List ℕ) → Type 0
IsPutIfAny (Some text) true old new = new ≡ old ++ text
IsPutIfAny None false old new = new ≡ old
IsPutIfAny o put old new = ⊥

-- what the operations of a unit are called, and their circuits, as far as it hands them in
module _ (called : ℕ → List ℕ) (circuit : ℕ → Option Worked) where
  -- the function whose file a line includes, if it is that of an operation below a number whose circuit the unit hands in
  abbrev pub function_at : (below : ℕ) → (line : List ℕ) → Option (List ℕ)
  function_at zero line = None
  function_at (suc i) line =
      if bytes_eq line (include_line (called i)) then option_map (function_of (called i)) (circuit i) else function_at i line

  module _ (size : ℕ) where
    -- what stands in the place of a line
    abbrev pub line_text : (line : List ℕ) → List ℕ
    line_text line = or_line (function_at size line) line

    -- A text from within a line on, of which so much has come: each line that includes the file of an operation whose circuit the unit
    -- hands in has become the function of that circuit.
    unfoldable pub with_functions : (line text : List ℕ) → List ℕ
    with_functions line [] = line
    with_functions line (c ∷ text) = if c == 10 then line_text line ++ with_functions [] text else with_functions (line ++ c ∷ []) text

    -- How a command ends whose text was kept and is put so: it has ended itself, and nothing is put but where that was well. It could not
    -- put its text into memory for want of memory alone.
    abbrev pub EndsIncluded : (shown : Status) → (kept : Option (List ℕ)) → (old new : Output) → Status → Type 0
    EndsIncluded status.Ok (Some text) old new s = TextEnds (λ t. t ≡ with_functions [] text) no_memory old new s
    EndsIncluded status.WriteFault kept old new s = (s ≡ status.NoMemory) × NothingOutput old new
    EndsIncluded shown kept old new s = (s ≡ shown) × NothingOutput old new
