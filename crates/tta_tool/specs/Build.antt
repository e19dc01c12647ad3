-- What the command `build` does, with the word `convert` and without it, and why it does not.
use Rattle.std.specs.Prelude.{ℕ, Bool, List}
use Rattle.tta_tool.specs.Cited.{World, Units, Machine, Program, Whole, Image, IsBuiltWith, HasCauseWith, MachineFile, Status, IsProgramFor, RefusesProgramFor, Writes}
use Rattle.tta_build.specs.declared.error.BuildError.{BuildError}
use Rattle.tta_build.specs.declared.error.BuildError.TheVariants as cause
use Rattle.tta_load.specs.declared.status.Status.TheVariants as status

-- Bytes are the image of code with data that was built for a machine of a program, as it stands or converted: it does what the
-- program does, from every memory, for every input and for every bound. It carries the digest of the machine's text.
pub record IsImageOf (converts : Bool) (u : Units) (file : MachineFile) (p : Program) (bytes : List ℕ) : Type 0 where
  pub whole : Whole
  pub image : Image file.machine file.digest whole bytes
  pub built : IsBuiltWith converts u file.machine p whole

-- the ending that says why no code is built
abbrev pub ending_of : BuildError → Status
ending_of (cause.NotCovered rule) = status.NotCovered rule
ending_of (cause.NoUnit line) = status.NoUnit line
ending_of (cause.FrameFull need have) = status.FrameFull need have
ending_of (cause.CodeFull words have) = status.CodeFull words have
ending_of cause.NoMemory = status.NoMemory

-- why no code is built for a pair, by the ending that says so
abbrev pub IsCauseOf : (converts : Bool) → Units → Machine → Program → Status → Type 0
IsCauseOf converts u m p (status.NotCovered rule) = HasCauseWith converts u m p (cause.NotCovered rule)
IsCauseOf converts u m p (status.NoUnit line) = HasCauseWith converts u m p (cause.NoUnit line)
IsCauseOf converts u m p (status.FrameFull need have) = HasCauseWith converts u m p (cause.FrameFull need have)
IsCauseOf converts u m p (status.CodeFull words have) = HasCauseWith converts u m p (cause.CodeFull words have)
IsCauseOf converts u m p status.NoMemory = Unit {0}
IsCauseOf converts u m p s = ⊥

-- How `build M P OUT` ends, and with the word `convert` after it. Each ending but out of memory comes only where its cause holds.
abbrev pub Builds : (converts : Bool) → Units → (M P OUT : List ℕ) → (before after : World) → Status → Type 0
Builds converts u M P OUT before after s =
    Writes u (IsProgramFor u) (RefusesProgramFor u) (IsImageOf converts u) (λ file p. IsCauseOf converts u file.machine p)
    M P OUT before after s
