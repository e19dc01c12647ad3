-- What a cycle adds to a page.
use Rattle.std.specs.Prelude.{◌≡◌, ◌⊎◌, ℕ, Bool, true, false, List, [], ◌++◌, Option, None, Some, codes, decimal}
use Rattle.tta_play.specs.Cited.{left, State, CycleStep, Ran, is_made, went_on}
use Rattle.tta_code.specs.Cycle.{Waiting as HasToWait}
use Rattle.tta_sim.specs.declared.cycle_step.CycleStep.TheVariants.{Halted, Waiting, Fault}
use Rattle.tta_play.specs.States.{out_text, outs_text, end_text, state_and_cycle_text}

-- what is told of an answer: the word that the cycle output, or why the run is over
abbrev pub step_text : CycleStep → List ℕ
step_text (Ran None took) = []
step_text (Ran (Some word) took) = out_text word
step_text Halted = codes "halted\n"
step_text Waiting = codes "waiting\n"
step_text (Fault number) = codes "fault " ++ (decimal number ++ codes "\n")

-- a cycle was carried out: the run stands for the state after it, and what is told is what the cycle output
pub record IsOn (step : State → State) (Stands : State → Type 0) (s : State) (told : List ℕ) (took : Bool) : Type 0 where
  pub stands : Stands (step s)
  pub rest : (step s).rest ≡ left took s.rest
  pub made : is_made step s ≡ true
  pub tells : told ≡ outs_text s (step s)

-- no cycle was carried out, and what is told is why
pub record IsOver (step : State → State) (s : State) (told : List ℕ) : Type 0 where
  pub made : is_made step s ≡ false
  pub tells : told ≡ end_text (step s).outcome

-- a cycle was carried out
pub record IsMade (step : State → State) (Stands : State → Type 0) (s : State) (took : Bool) : Type 0 where
  pub stands : Stands (step s)
  pub rest : (step s).rest ≡ left took s.rest
  pub made : is_made step s ≡ true

-- whether a cycle was carried out
abbrev pub IsCarriedOut : (step : State → State) → (Stands : State → Type 0) → State → Option Bool → Type 0
IsCarriedOut step Stands s (Some took) = IsMade step Stands s took
IsCarriedOut step Stands s None = is_made step s ≡ false

-- what became of a cycle
abbrev pub GoesBy : (step : State → State) → (Stands : State → Type 0) → State → (told : List ℕ) → Option Bool → Type 0
GoesBy step Stands s told (Some took) = IsOn step Stands s told took
GoesBy step Stands s told None = IsOver step s told

-- the same by the answer
abbrev pub Goes : (step : State → State) → (Stands : State → Type 0) → State → CycleStep → Type 0
Goes step Stands s answer = GoesBy step Stands s (step_text answer) (went_on answer)

-- ---- a state with its cycle

-- words are those of the spaces of a state
pub record AreSpacesOf (s : State) (memory frame : List ℕ) : Type 0 where
  pub words : memory ≡ s.memory
  pub frames : frame ≡ s.frame

-- a state was put with what its cycle did, and that became of the cycle
pub record PutsWithCycle (step : State → State) (Stands : State → Type 0) (told : State → List ℕ) (s : State) (old new : List ℕ) (went : Option Bool) : Type 0 where
  pub tells : new ≡ old ++ state_and_cycle_text step told s
  pub goes : IsCarriedOut step Stands s went

-- ---- many cycles

-- a state that has to wait for a word of the input
abbrev pub waiting : State → State
waiting s = record s { outcome = HasToWait }

-- A run is at a state: it stands for that, or, where that has to wait for a word of the input, for the same that tries to go on. So much of the
-- input is left.
pub record IsAt (step : State → State) (Stands : State → Type 0) (rest : List ℕ) (goal : State) : Type 0 where
  pub state : State
  pub stands : Stands state
  pub left : state.rest ≡ rest
  pub is : (goal ≡ state) ⊎ ((step state ≡ waiting state) × (goal ≡ waiting state))
