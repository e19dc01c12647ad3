-- The run of code, move by move.
use Rattle.std.specs.Prelude.{ℕ, Bool, List, ◌++◌}
use Rattle.tta_report.specs.declared.line.Line.TheVariants as line
use Rattle.tta_code_run.specs.Cited.{lines_text, word_lines, Units, Machine, Code, Fault, Ended, Meaning, last_text}
use Rattle.tta_code.specs.Cycle.{State, Outcome, Running, Halted, Waiting, next}
use Rattle.tta_run.specs.declared.ended.Ended.TheVariants as ended
use Rattle.tta_run.specs.Loops as loops
use Rattle.tta_run.specs.Reports.{Reports}
use Rattle.tta_sim.specs.Held.{Held, Stands}

-- a machine, and the code that it runs
pub record Course : Type 0 where
  pub machine : Machine
  pub code : Code

-- the same state, where it waits
abbrev pub waiting : State → State
waiting s = record s { outcome = Waiting }

-- a move of code is a cycle of the machine
abbrev pub meaning_of : Units → Machine → Code → Meaning State
meaning_of u m code = record { next = next u m code; waiting = waiting; output = λ s. s.output; rest = λ s. s.rest }

-- the run stands for this state, or the state waits and is else one for which the run stands
abbrev pub ComesTo : (waits : Bool) → Held → State → Type 0
ComesTo waits h t = loops.ComesTo waiting (Stands h) waits t

-- ---- what is reported

-- how a run stands
abbrev pub ended_of : Outcome → Ended
ended_of Running = ended.Running
ended_of Halted = ended.Halted
ended_of Waiting = ended.Waiting
ended_of (Fault number cycle) = ended.Fault number cycle

-- how a state stands, its data words, and how many cycles were made
abbrev pub reports : Reports State
reports = record { ended = λ s. ended_of s.outcome; memory = λ s. s.memory; count = λ s. line.Cycles s.cycle }

-- all that is printed of a run that has come to a state: the words that were output, how it stands, the data words that are not 0,
-- and the number of cycles
abbrev pub run_text : State → List ℕ
run_text s = lines_text (word_lines s.output) ++ last_text reports s
