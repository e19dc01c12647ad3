-- What became of a cycle.
use Rattle.std.specs.Prelude.{◌≡◌, ℕ, Bool, true, false, List, ◌++◌, Option, None, Some}
use Rattle.tta_waves.specs.Cited.{left, State, Outcome, Running, CycleStep, Ran, is_made, went_on}
use Rattle.tta_code.specs.Cycle.{Halted, Waiting, Fault}
use Rattle.tta_sim.specs.declared.cycle_step.CycleStep.TheVariants.{Halted as HadHalted, Waiting as Waits, Fault as Faults}
use Rattle.tta_waves.specs.declared.level.Level.{Level}
use Rattle.tta_waves.specs.Dump.{state_text}

-- a cycle was carried out, and the run stands for the state after it
pub record IsOn (step : State → State) (Stands : State → Type 0) (s : State) (took : Bool) : Type 0 where
  pub stands : Stands (step s)
  pub rest : (step s).rest ≡ left took s.rest
  pub made : is_made step s ≡ true

-- no cycle was carried out, and this is how the run stands
pub record IsOver (step : State → State) (s : State) (why : Outcome) : Type 0 where
  pub made : is_made step s ≡ false
  pub outcome : (step s).outcome ≡ why

-- how a run stands by the answer of a cycle
abbrev pub outcome_of : CycleStep → (cycle : ℕ) → Outcome
outcome_of (Ran word took) cycle = Running
outcome_of HadHalted cycle = Halted
outcome_of Waits cycle = Waiting
outcome_of (Faults number) cycle = Fault number cycle

-- what became of the cycle of a state
abbrev pub GoesBy : (step : State → State) → (Stands : State → Type 0) → State → Outcome → Option Bool → Type 0
GoesBy step Stands s outcome (Some took) = IsOn step Stands s took
GoesBy step Stands s outcome None = IsOver step s outcome

-- the same by the run's answer
abbrev pub Goes : (step : State → State) → (Stands : State → Type 0) → State → CycleStep → Type 0
Goes step Stands s answer = GoesBy step Stands s (outcome_of answer s.cycle) (went_on answer)

-- a state was told after these levels: what changed was put, and its levels are those that were told last
pub record IsTold (levels : List Level) (cycle : ℕ) (before : List Level) (old : List ℕ) (after : List Level) (new : List ℕ) : Type 0 where
  pub last : after ≡ levels
  pub text : new ≡ old ++ state_text before levels cycle
