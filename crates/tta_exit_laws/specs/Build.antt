-- How the command `build` ends, with the word `convert` and without it, by its status.
use Rattle.std.specs.Prelude.{◌↔◌, ℕ, Bool, List}
use Rattle.tta_exit_laws.specs.Cited.{World, Units, Status, IsProgramFor, RefusesProgramFor, WriteEndings, Builds, IsImageOf, IsCauseOf}

-- what holds where `build M P OUT`, or `build M P OUT convert`, ends with a status
abbrev pub BuildEndings : (converts : Bool) → Units → (M P OUT : List ℕ) → (before after : World) → Status → Type 0
BuildEndings converts u M P OUT before after s =
    WriteEndings u (IsProgramFor u) (RefusesProgramFor u) (IsImageOf converts u) (λ file p. IsCauseOf converts u file.machine p) M P OUT before after s

-- the clause of `build` says this of each status
abbrev pub BuildByStatus : Type 0
BuildByStatus =
    (converts : Bool) (u : Units) (M P OUT : List ℕ) (before after : World) (s : Status)
    → Builds converts u M P OUT before after s ↔ BuildEndings converts u M P OUT before after s
