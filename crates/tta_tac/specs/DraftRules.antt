-- What holds of a program while its text is read, so that its numbers fit.
use Rattle.std.specs.Prelude.{ℕ, ◌≤◌, length}
use Rattle.std.specs.Option.{IfSome}
use Rattle.tta_tac.specs.Draft.{ProcDraft, Draft}

-- a begun procedure after so many lines: no more steps than lines, and at most 4,096 variables
pub record IsBegun (lines : ℕ) (q : ProcDraft) : Type 0 where
  pub steps : length q.steps ≤ lines
  pub vars : length q.vars ≤ 4096

-- at most 65,536 lines that are not blank, and no more procedures than lines
pub record IsDraft (d : Draft) : Type 0 where
  pub lines : d.lines ≤ 65536
  pub procs : length d.procs ≤ d.lines
  pub begun : IfSome d.begun (IsBegun d.lines)
