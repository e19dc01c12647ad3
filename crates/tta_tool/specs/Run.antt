-- What the command `run` does, and why it does not.
use Rattle.std.specs.Prelude.{ℕ, List, Option}
use Rattle.tta_tool.specs.Cited.{World, Output, Units, Whole, code_at, MachineFile, Status, IsImageFor, RefusesImage, PairRuns}
use Rattle.tta_code_run.specs.Cycles.{ended_of, run_text}
use Rattle.tta_tool.specs.Runs.{ReportEnds}

-- how code reports from these data words and with this input: from the state to which it has come after so many cycles, its data
-- laid over the words
abbrev pub Reports : Units → (bound : ℕ) → MachineFile → Whole → (memory words : List ℕ) → (old new : Output) → Status → Type 0
Reports u bound file whole memory words old new s =
    let end = code_at u file.machine whole memory words bound in ReportEnds (run_text end) (ended_of end.outcome) old new s

-- How `run M IMG IN N` and `run M IMG IN N STREAM` end. Each ending but out of memory comes only where its cause holds. Nothing is
-- put but at the end of a run: all of its text, or a prefix of it where a put has failed.
abbrev pub Runs : Units → (M IMG IN : List ℕ) → (STREAM : Option (List ℕ)) → (bound : ℕ) → (before after : World) → (old new : Output) → Status → Type 0
Runs u M IMG IN STREAM bound before after old new s =
    PairRuns u IsImageFor RefusesImage (Reports u bound) M IMG IN STREAM before after old new s
