-- What a line does to what was read before it.
use Rattle.std.specs.Prelude.{◌≡◌, Result, Ok, Err}
use Rattle.tta_parse.specs.declared.line_error.LineError.{LineError}
use Rattle.tta_parse.specs.declared.line_error.LineError.TheVariants.{Refused, NoMemory}

-- a line made what was read before into what the definition says, or was refused as it says, or there was no memory
abbrev pub Takes : {A D E : Type 0} → (new : D) → Result A (LineError E) → Result D E → Type 0
Takes new (Ok x) said = said ≡ Ok new
Takes new (Err (Refused e)) said = said ≡ Err e
Takes new (Err NoMemory) said = Unit {0}
