-- The run of a program, move by move.
use Rattle.std.specs.Prelude.{ℕ, Bool, List, ◌++◌}
use Rattle.tta_report.specs.declared.line.Line.TheVariants as line
use Rattle.tta_tool.specs.Cited.{lines_text, word_lines, Units, Program, Ended, Meaning, last_text}
use Rattle.tta_program.specs.Sequential.{State, Outcome, Running, Halted, Waiting, next}
use Rattle.tta_run.specs.declared.ended.Ended.TheVariants as ended
use Rattle.tta_run.specs.Loops as loops
use Rattle.tta_run.specs.Reports.{Reports}
use Rattle.tta_tacrun.specs.Run.{Run, Stands}

-- a program, and how many data words there are
pub record Course : Type 0 where
  pub program : Program
  pub space : ℕ

-- the same state, where it waits
abbrev pub waiting : State → State
waiting s = record s { outcome = Waiting }

-- a move of a program is a step of its sequential meaning
abbrev pub meaning_of : Units → Program → Meaning State
meaning_of u p = record { next = next u p; waiting = waiting; output = λ s. s.output; rest = λ s. s.rest }

-- the run stands for this state, or the state waits and is else one for which the run stands
abbrev pub ComesTo : (waits : Bool) → Run → State → Type 0
ComesTo waits r t = loops.ComesTo waiting (Stands r) waits t

-- ---- what is reported

-- how a run stands
abbrev pub ended_of : Outcome → Ended
ended_of Running = ended.Running
ended_of Halted = ended.Halted
ended_of Waiting = ended.Waiting

-- how a state stands, its data words, and how many steps were made
abbrev pub reports : Reports State
reports = record { ended = λ s. ended_of s.outcome; memory = λ s. s.memory; count = λ s. line.Steps s.steps }

-- all that is printed of a run that has come to a state: the words that were output, how it stands, the data words that are not 0,
-- and the number of steps
abbrev pub run_text : State → List ℕ
run_text s = lines_text (word_lines s.output) ++ last_text reports s
