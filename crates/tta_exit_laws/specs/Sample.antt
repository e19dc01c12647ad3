-- How the command `sample` ends, by its status.
use Rattle.std.specs.Prelude.{◌≡◌, ◌↔◌, ℕ, List, Option}
use Rattle.tta_exit_laws.specs.Cited.{Store, World, IsUntouched, Output, NothingOutput, IsPut, IsCut, Units, Machine, sample_text, Whole, IsBuilt, HasCause, Status, HasText, ReadFailed, IsBadMachine, IsProgramIn, IsBadProgram, IsOutside, CodeCompared, Samples, program_after, step_bound}
use Rattle.tta_program.specs.Program.{Program}
use Rattle.tta_program.specs.Sequential as program
use Rattle.tta_build.specs.declared.error.BuildError.TheVariants as cause
use Rattle.tta_load.specs.declared.status.Status.TheVariants as status
use Rattle.tta_load.specs.Held.{IsTooLong}
use Rattle.tta_load.specs.Endings.{OfMachine}

-- a file holds a machine, the sample's text is that of a program for it, and something is true of the two
abbrev pub OfSample : Units → (seed lines : ℕ) → (files : Option Store) → (M : List ℕ) → (Is : Machine → Program → Type 0) → Type 0
OfSample u seed lines files M Is =
    OfMachine u files M (λ file. (p : Program) × IsProgramIn u file.machine.data_words (sample_text seed lines) p × Is file.machine p)

-- there is code for both too, of which something is true
abbrev pub OfCode : Units → (seed lines : ℕ) → (files : Option Store) → (M : List ℕ) → (Is : Machine → Program → Whole → Type 0) → Type 0
OfCode u seed lines files M Is = OfSample u seed lines files M (λ m p. (whole : Whole) × IsBuilt u m p whole × Is m p whole)

-- what holds where `sample SEED LINES M` ends with a status
abbrev pub SampleEndings : Units → (seed lines : ℕ) → (M : List ℕ) → (before after : World) → (old new : Output) → Status → Type 0
SampleEndings u seed lines M before after old new status.Ok =
    IsUntouched before after
    × OfCode u seed lines before.contents M (λ m p whole. CodeCompared u m p whole (step_bound lines) (λ text. IsPut text old new))
SampleEndings u seed lines M before after old new (status.BadMachine line code) =
    IsUntouched before after × NothingOutput old new × HasText before.contents M (λ text. IsBadMachine u text line code)
SampleEndings u seed lines M before after old new (status.BadProgram line code) =
    IsUntouched before after × NothingOutput old new × OfMachine u before.contents M (λ file. IsBadProgram u (sample_text seed lines) line code)
SampleEndings u seed lines M before after old new (status.DataRange line have) =
    IsUntouched before after × NothingOutput old new
    × OfMachine u before.contents M (λ file. IsOutside u file.machine.data_words (sample_text seed lines) line have)
SampleEndings u seed lines M before after old new (status.NotCovered rule) =
    IsUntouched before after × NothingOutput old new × OfSample u seed lines before.contents M (λ m p. HasCause u m p (cause.NotCovered rule))
SampleEndings u seed lines M before after old new (status.NoUnit line) =
    IsUntouched before after × NothingOutput old new × OfSample u seed lines before.contents M (λ m p. HasCause u m p (cause.NoUnit line))
SampleEndings u seed lines M before after old new (status.FrameFull need have) =
    IsUntouched before after × NothingOutput old new × OfSample u seed lines before.contents M (λ m p. HasCause u m p (cause.FrameFull need have))
SampleEndings u seed lines M before after old new (status.CodeFull words have) =
    IsUntouched before after × NothingOutput old new × OfSample u seed lines before.contents M (λ m p. HasCause u m p (cause.CodeFull words have))
SampleEndings u seed lines M before after old new status.Running =
    IsUntouched before after × NothingOutput old new
    × OfCode u seed lines before.contents M (λ m p whole. (program_after u p m.data_words (step_bound lines)).outcome ≡ program.Running)
SampleEndings u seed lines M before after old new (status.ReadFault word) = NothingOutput old new × (word ≡ 3) × ReadFailed M before after
SampleEndings u seed lines M before after old new status.WriteFault =
    IsUntouched before after
    × OfCode u seed lines before.contents M (λ m p whole. CodeCompared u m p whole (step_bound lines) (λ text. IsCut text old new))
SampleEndings u seed lines M before after old new (status.TooLong word) = NothingOutput old new × (word ≡ 3) × IsTooLong M before after
SampleEndings u seed lines M before after old new status.NoMemory = IsUntouched before after × NothingOutput old new
SampleEndings u seed lines M before after old new status.Waiting =
    IsUntouched before after × NothingOutput old new
    × OfCode u seed lines before.contents M (λ m p whole. (program_after u p m.data_words (step_bound lines)).outcome ≡ program.Waiting)
SampleEndings u seed lines M before after old new s = ⊥

-- the clause of `sample` says this of each status
abbrev pub SampleByStatus : Type 0
SampleByStatus =
    (u : Units) (seed lines : ℕ) (M : List ℕ) (before after : World) (old new : Output) (s : Status)
    → Samples u seed lines M before after old new s ↔ SampleEndings u seed lines M before after old new s
