-- How the command `run` ends, by its status.
use Rattle.std.specs.Prelude.{◌≡◌, ◌↔◌, ℕ, List, Option}
use Rattle.tta_exit_laws.specs.Cited.{Store, World, Output, IsPut, IsCut, Units, code_at, Status, IsImageFor, RefusesImage, OfRun, PairRunEndings, Runs}
use Rattle.tta_code.specs.Cycle.{State, Running, Halted, Waiting, Fault}
use Rattle.tta_load.specs.declared.status.Status.TheVariants as status
use Rattle.tta_code_run.specs.Cycles.{run_text}

-- files hold all that is run, and something is true of the state to which it has come
abbrev pub HasCycled : Units → (files : Option Store) → (M IMG IN : List ℕ) → (STREAM : Option (List ℕ)) → (bound : ℕ) → (Is : State → Type 0) → Type 0
HasCycled u files M IMG IN STREAM bound Is =
    OfRun u IsImageFor files M IMG IN STREAM (λ file whole memory words. Is (code_at u file.machine whole memory words bound))

-- what holds of the state to which code has come, where its run ends the command with a status
abbrev pub CodeRows : State → (old new : Output) → Status → Type 0
CodeRows end old new status.Ok = (end.outcome ≡ Halted) × IsPut (run_text end) old new
CodeRows end old new status.Running = (end.outcome ≡ Running) × IsPut (run_text end) old new
CodeRows end old new status.Waiting = (end.outcome ≡ Waiting) × IsPut (run_text end) old new
CodeRows end old new (status.MachineFault code cycle) = (end.outcome ≡ Fault code cycle) × IsPut (run_text end) old new
CodeRows end old new status.WriteFault = IsCut (run_text end) old new
CodeRows end old new s = ⊥

-- what holds where `run M IMG IN N` or `run M IMG IN N STREAM` ends with a status
abbrev pub RunEndings : Units → (M IMG IN : List ℕ) → (STREAM : Option (List ℕ)) → (bound : ℕ) → (before after : World) → (old new : Output) → Status → Type 0
RunEndings u M IMG IN STREAM bound before after old new s =
    PairRunEndings u IsImageFor RefusesImage (λ file whole memory words. CodeRows (code_at u file.machine whole memory words bound))
    M IMG IN STREAM before after old new s

-- the clause of `run` says this of each status
abbrev pub RunByStatus : Type 0
RunByStatus =
    (u : Units) (M IMG IN : List ℕ) (STREAM : Option (List ℕ)) (bound : ℕ) (before after : World) (old new : Output) (s : Status)
    → Runs u M IMG IN STREAM bound before after old new s ↔ RunEndings u M IMG IN STREAM bound before after old new s
