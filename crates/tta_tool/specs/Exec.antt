-- What the command `exec` does, and why it does not.
use Rattle.std.specs.Prelude.{ℕ, List, Option}
use Rattle.tta_tool.specs.Cited.{World, Output, Units, Program, program_at, MachineFile, Status, IsProgramFor, RefusesProgramFor, PairRuns}
use Rattle.tta_tool.specs.Steps.{ended_of, run_text}
use Rattle.tta_tool.specs.Runs.{ReportEnds}

-- how a program reports from these data words and with this input: from the state to which it has come after so many steps, its
-- data laid over the words
abbrev pub Reports : Units → (bound : ℕ) → MachineFile → Program → (memory words : List ℕ) → (old new : Output) → Status → Type 0
Reports u bound file program memory words old new s =
    let end = program_at u program memory words bound in ReportEnds (run_text end) (ended_of end.outcome) old new s

-- How `exec M P IN N` and `exec M P IN N STREAM` end. Each ending but out of memory comes only where its cause holds. Nothing is
-- put but at the end of a run: all of its text, or a prefix of it where a put has failed.
abbrev pub Execs : Units → (M P IN : List ℕ) → (STREAM : Option (List ℕ)) → (bound : ℕ) → (before after : World) → (old new : Output) → Status → Type 0
Execs u M P IN STREAM bound before after old new s =
    PairRuns u (IsProgramFor u) (RefusesProgramFor u) (Reports u bound) M P IN STREAM before after old new s
