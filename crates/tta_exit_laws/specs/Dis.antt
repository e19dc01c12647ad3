-- How the command `dis` ends, by its status.
use Rattle.std.specs.Prelude.{◌↔◌, ℕ, List}
use Rattle.tta_exit_laws.specs.Cited.{World, Units, Status, no_memory, IsImageFor, RefusesImage, WriteEndings, Shows}
use Rattle.tta_tool.specs.Dis.{IsShown}

-- what holds where `dis M IMG OUT` ends with a status
abbrev pub DisEndings : Units → (M IMG OUT : List ℕ) → (before after : World) → Status → Type 0
DisEndings u M IMG OUT before after s =
    WriteEndings u IsImageFor RefusesImage (IsShown u) (λ file whole. no_memory) M IMG OUT before after s

-- the clause of `dis` says this of each status
abbrev pub DisByStatus : Type 0
DisByStatus =
    (u : Units) (M IMG OUT : List ℕ) (before after : World) (s : Status) → Shows u M IMG OUT before after s ↔ DisEndings u M IMG OUT before after s
