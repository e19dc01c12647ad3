-- How the command `exec` ends, by its status.
use Rattle.std.specs.Prelude.{◌≡◌, ◌↔◌, ℕ, List, Option}
use Rattle.tta_exit_laws.specs.Cited.{Store, World, Output, IsPut, IsCut, Units, program_at, Status, IsProgramFor, RefusesProgramFor, OfRun, PairRunEndings, Execs}
use Rattle.tta_program.specs.Sequential.{State, Running, Halted, Waiting}
use Rattle.tta_load.specs.declared.status.Status.TheVariants as status
use Rattle.tta_tool.specs.Steps.{run_text}

-- files hold all that is run, and something is true of the state to which it has come
abbrev pub HasExecuted : Units → (files : Option Store) → (M P IN : List ℕ) → (STREAM : Option (List ℕ)) → (bound : ℕ) → (Is : State → Type 0) → Type 0
HasExecuted u files M P IN STREAM bound Is =
    OfRun u (IsProgramFor u) files M P IN STREAM (λ file program memory words. Is (program_at u program memory words bound))

-- what holds of the state to which a program has come, where its run ends the command with a status; a program has no fault
abbrev pub ProgramRows : State → (old new : Output) → Status → Type 0
ProgramRows end old new status.Ok = (end.outcome ≡ Halted) × IsPut (run_text end) old new
ProgramRows end old new status.Running = (end.outcome ≡ Running) × IsPut (run_text end) old new
ProgramRows end old new status.Waiting = (end.outcome ≡ Waiting) × IsPut (run_text end) old new
ProgramRows end old new status.WriteFault = IsCut (run_text end) old new
ProgramRows end old new s = ⊥

-- what holds where `exec M P IN N` or `exec M P IN N STREAM` ends with a status
abbrev pub ExecEndings : Units → (M P IN : List ℕ) → (STREAM : Option (List ℕ)) → (bound : ℕ) → (before after : World) → (old new : Output) → Status → Type 0
ExecEndings u M P IN STREAM bound before after old new s =
    PairRunEndings u (IsProgramFor u) (RefusesProgramFor u) (λ file program memory words. ProgramRows (program_at u program memory words bound))
    M P IN STREAM before after old new s

-- the clause of `exec` says this of each status
abbrev pub ExecByStatus : Type 0
ExecByStatus =
    (u : Units) (M P IN : List ℕ) (STREAM : Option (List ℕ)) (bound : ℕ) (before after : World) (old new : Output) (s : Status)
    → Execs u M P IN STREAM bound before after old new s ↔ ExecEndings u M P IN STREAM bound before after old new s
