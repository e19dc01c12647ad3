-- How a command that runs something reports.
use Rattle.std.specs.Prelude.{◌≡◌, ℕ, List}
use Rattle.tta_tool.specs.Cited.{Output, NothingOutput, IsPut, IsCut, Ended, Status}
use Rattle.tta_run.specs.declared.ended.Ended.TheVariants as ended
use Rattle.tta_load.specs.declared.status.Status.TheVariants as status

-- a run stands so at its bound, and its text was put, or a prefix of it
abbrev pub ReportEnds : (text : List ℕ) → Ended → (old new : Output) → Status → Type 0
ReportEnds text end old new status.Ok = (end ≡ ended.Halted) × IsPut text old new
ReportEnds text end old new status.Running = (end ≡ ended.Running) × IsPut text old new
ReportEnds text end old new status.Waiting = (end ≡ ended.Waiting) × IsPut text old new
ReportEnds text end old new (status.MachineFault number cycle) = (end ≡ ended.Fault number cycle) × IsPut text old new
ReportEnds text end old new status.WriteFault = IsCut text old new
ReportEnds text end old new status.NoMemory = NothingOutput old new
ReportEnds text end old new s = ⊥
