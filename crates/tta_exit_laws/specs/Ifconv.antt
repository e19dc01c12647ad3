-- How the command `ifconv` ends, by its status.
use Rattle.std.specs.Prelude.{◌≡◌, ◌↔◌, ℕ, List, Option}
use Rattle.tta_exit_laws.specs.Cited.{Store, World, IsUntouched, Units, ProgramText, Status, HasText, Held, ReadFailed, IsBadProgram, IsWritten, WriteFailed, IsConvertedText, WritesConverted}
use Rattle.tta_program.specs.Program.{Program}
use Rattle.tta_load.specs.declared.status.Status.TheVariants as status
use Rattle.tta_load.specs.Held.{IsTooLong}

-- a file holds a program of which something is true
abbrev pub OfProgram : Units → (files : Option Store) → (P : List ℕ) → (Is : Program → Type 0) → Type 0
OfProgram u files P Is = (program : Held (ProgramText u) files P) × Is program.value

-- what holds where `ifconv P OUT` ends with a status
abbrev pub IfconvEndings : Units → (P OUT : List ℕ) → (before after : World) → Status → Type 0
IfconvEndings u P OUT before after status.Ok = OfProgram u before.contents P (λ p. IsWritten (IsConvertedText u p) OUT before after)
IfconvEndings u P OUT before after (status.BadProgram line code) =
    IsUntouched before after × HasText before.contents P (λ text. IsBadProgram u text line code)
IfconvEndings u P OUT before after (status.ReadFault word) = (word ≡ 1) × ReadFailed P before after
IfconvEndings u P OUT before after status.WriteFault = OfProgram u before.contents P (λ p. WriteFailed (IsConvertedText u p) OUT before after)
IfconvEndings u P OUT before after (status.TooLong word) = (word ≡ 1) × IsTooLong P before after
IfconvEndings u P OUT before after status.NoMemory = IsUntouched before after
IfconvEndings u P OUT before after s = ⊥

-- the clause of `ifconv` says this of each status
abbrev pub IfconvByStatus : Type 0
IfconvByStatus =
    (u : Units) (P OUT : List ℕ) (before after : World) (s : Status) → WritesConverted u P OUT before after s ↔ IfconvEndings u P OUT before after s
