-- What the command `ifconv` does, and why it does not.
use Rattle.std.specs.Prelude.{◌≡◌, ◌⊎◌, ℕ, List}
use Rattle.tta_tool.specs.Cited.{World, IsUntouched, Units, Program, ProgramText, Converted, printed, Status, FileFails, no_memory, RefusesSource, WritingEnds}
use Rattle.tta_load.specs.Held.{Held}

-- bytes are the printed text of the program that a program is converted to
pub record IsConvertedText (u : Units) (p : Program) (bytes : List ℕ) : Type 0 where
  pub converted : Program
  pub is : Converted p converted
  pub text : bytes ≡ printed u converted

-- How `ifconv P OUT` ends: the program is refused; or there is no memory, and no file is touched; or the text was made and is
-- written. Each ending but out of memory comes only where its cause holds.
abbrev pub WritesConverted : Units → (P OUT : List ℕ) → (before after : World) → Status → Type 0
WritesConverted u P OUT before after s =
    FileFails (RefusesSource u) P 1 before after s
    ⊎ ((program : Held (ProgramText u) before.contents P)
    × ((IsUntouched before after × no_memory s) ⊎ WritingEnds (IsConvertedText u program.value) OUT before after s))
