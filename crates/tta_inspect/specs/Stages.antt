-- What `stages` does, and why it does not.
use Rattle.std.specs.Prelude.{◌≡◌, ◌↔◌, ℕ, List}
use Rattle.tta_inspect.specs.Cited.{World, Output, Units, Machine, HasCause, Stages, AreStages, stages_text, stages_page, MachineFile, Status, IsProgramFor, RefusesProgramFor, Puts, PutEndings}
use Rattle.tta_program.specs.Program.{Program}
use Rattle.tta_build.specs.declared.error.BuildError.TheVariants as cause
use Rattle.tta_load.specs.declared.status.Status.TheVariants as status
use Rattle.tta_inspect.specs.declared.view.StagesView.{StagesView}
use Rattle.tta_inspect.specs.declared.view.StagesView.TheVariants.{Lines, Page}

-- a view of what is told of stages: that text, or the page that shows it
abbrev pub view_of_stages : StagesView → (told : List ℕ) → List ℕ
view_of_stages Lines told = told
view_of_stages Page told = stages_page told

-- A text is a view of what is told of stages that are those of a program on the way to code for a machine.
pub record IsStagesOf (u : Units) (view : StagesView) (file : MachineFile) (p : Program) (text : List ℕ) : Type 0 where
  pub stages : Stages
  pub are : AreStages u file.machine p stages
  pub told : text ≡ view_of_stages view (stages_text u file.machine p stages)

-- why there are no stages of a pair, by the ending that says so: the causes for which `build` builds no code
abbrev pub IsCauseOf : Units → Machine → Program → Status → Type 0
IsCauseOf u m p (status.NotCovered rule) = HasCause u m p (cause.NotCovered rule)
IsCauseOf u m p (status.NoUnit line) = HasCause u m p (cause.NoUnit line)
IsCauseOf u m p (status.FrameFull need have) = HasCause u m p (cause.FrameFull need have)
IsCauseOf u m p (status.CodeFull words have) = HasCause u m p (cause.CodeFull words have)
IsCauseOf u m p status.NoMemory = Unit {0}
IsCauseOf u m p s = ⊥

-- How `stages M P` and `stages M P --html` end. Each ending but out of memory comes only where its cause holds.
abbrev pub ShowsStages : Units → StagesView → (M P : List ℕ) → (before after : World) → (old new : Output) → Status → Type 0
ShowsStages u view M P before after old new s =
    Puts u (IsProgramFor u) (RefusesProgramFor u) (IsStagesOf u view) (λ file p. IsCauseOf u file.machine p) M P before after old new s

-- ---- how it ends by its status

-- what holds where such a command ends with a status
abbrev pub StagesEndings : Units → StagesView → (M P : List ℕ) → (before after : World) → (old new : Output) → Status → Type 0
StagesEndings u view M P before after old new s =
    PutEndings u (IsProgramFor u) (RefusesProgramFor u) (IsStagesOf u view) (λ file p. IsCauseOf u file.machine p) M P before after old new s

-- its clause says this of each status
abbrev pub StagesByStatus : Type 0
StagesByStatus =
    (u : Units) (view : StagesView) (M P : List ℕ) (before after : World) (old new : Output) (s : Status)
    → ShowsStages u view M P before after old new s ↔ StagesEndings u view M P before after old new s
