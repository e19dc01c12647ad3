-- How the command `check` ends, by its status.
use Rattle.std.specs.Prelude.{◌↔◌, ℕ, List}
use Rattle.tta_exit_laws.specs.Cited.{World, Output, Units, Status, IsImageFor, RefusesImage, PutEndings, IsCalledSafe, IsFound, ChecksCode}

-- what holds where `check M IMG` ends with a status. Code that cannot fault is not found unsafe, so each of the two comes only where
-- the other cannot
abbrev pub CheckEndings : Units → (M IMG : List ℕ) → (before after : World) → (old new : Output) → Status → Type 0
CheckEndings u M IMG before after old new s = PutEndings u IsImageFor RefusesImage IsCalledSafe IsFound M IMG before after old new s

-- the clause of `check` says this of each status
abbrev pub CheckByStatus : Type 0
CheckByStatus =
    (u : Units) (M IMG : List ℕ) (before after : World) (old new : Output) (s : Status)
    → ChecksCode u M IMG before after old new s ↔ CheckEndings u M IMG before after old new s
