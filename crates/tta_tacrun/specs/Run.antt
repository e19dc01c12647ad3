-- What a run holds, and which state it stands for.
use Rattle.std.specs.Prelude.{◌≡◌, ◌<◌, ℕ, Bool, true, false, ◌&&◌, if◌then◌else◌, List, [], ◌∷◌, ◌++◌, map, slice_index_or, Option, None, Some, is_some, option_to_list}
use Rattle.std.specs.Option.{option_map_or}
use Rattle.tta_tacrun.specs.Cited.{left, Units, Step, Invoke, Program, calls_proc, Frame, Outcome, State, Halted, Waiting, carry_out, step_at, takes, next}
use Rattle.tta_program.specs.declared.step.Step.TheVariants.{Copy, Apply, Load, Store, If, Goto, When}
use Rattle.tta_program.specs.Sequential.{Running}
use Rattle.tta_tacrun.specs.declared.answer.SeqStep.{SeqStep}
use Rattle.tta_tacrun.specs.declared.answer.SeqStep.TheVariants.{Ran, Halted as DoesNotRun, Waiting as Waits}
use Rattle.tta_tacrun.specs.declared.phase.Phase.{Phase}
use Rattle.tta_tacrun.specs.declared.phase.Phase.TheVariants.{Running as Runs, Stopped, Returned}
use Rattle.tta_tacrun.specs.Calls.{Calls}

-- how many variables a procedure has, and its steps at their places, without those that output or take a word, or begin or
-- end a call
pub record SilentProc : Type 0 where
  pub size : ℕ
  pub steps : List (Option Step)

-- all of a state but the input and the output, how many variables each procedure of the program has, and its silent steps
pub record Run : Type 0 where
  pub sizes : List ℕ
  pub code : List SilentProc
  pub stack : List Frame
  pub memory : List ℕ
  pub steps : ℕ
  pub outcome : Outcome

-- A run stands for each state that agrees with all that it holds. So it stands for none that waits, since it holds no
-- input: one that waits goes on where there is a word.
pub record Stands (r : Run) (s : State) : Type 0 where
  pub stack : r.stack ≡ s.stack
  pub memory : r.memory ≡ s.memory
  pub steps : r.steps ≡ s.steps
  pub outcome : r.outcome ≡ s.outcome

-- The answer of a step from a state: Halted where the state has halted, Waiting where the step makes it wait, and else the
-- word that the step outputs, if any, and whether it takes a word of the input.
abbrev pub IsAnswer : Units → Program → State → SeqStep → Type 0
IsAnswer u p s DoesNotRun = s.outcome ≡ Halted
IsAnswer u p s Waits = (s.outcome ≡ Running) × (next u p s ≡ record s { outcome = Waiting })
IsAnswer u p s (Ran word took) =
    (s.outcome ≡ Running) × ((next u p s).output ≡ s.output ++ option_to_list word) × ((next u p s).rest ≡ left took s.rest)

-- A run after a step stands for the next state, and where the step waits for the same one.
abbrev pub GoesOn : Units → Program → Run → State → SeqStep → Type 0
GoesOn u p after s Waits = Stands after s
GoesOn u p after s answer = Stands after (next u p s)

-- A run after steps that output nothing and take nothing: it stands for the state after them.
pub record IsSilentRun (after : Run) (s t : State) : Type 0 where
  pub stands : Stands after t
  pub output : t.output ≡ s.output
  pub rest : t.rest ≡ s.rest

-- the steps that an answer stands for: one, but for a run that has halted before, or waits
abbrev pub steps_of : SeqStep → ℕ
steps_of DoesNotRun = 0
steps_of Waits = 0
steps_of (Ran word took) = 1

-- whether a state has halted
abbrev pub is_over : Outcome → Bool
is_over Running = false
is_over Halted = true
is_over Waiting = false

-- ---- the program of a run

-- the innermost of these calls stands at a call of the procedure; where there is none, nobody called it
abbrev pub is_called : Program → (callee : ℕ) → List Frame → Bool
is_called p callee [] = true
is_called p callee (caller ∷ rest) = option_map_or (calls_proc callee) (step_at p caller.proc caller.at) false

-- each call was made by the one after it
abbrev pub is_path : Program → List Frame → Bool
is_path p [] = true
is_path p (f ∷ rest) = is_called p f.proc rest && is_path p rest

-- the innermost call stands at a step
abbrev pub is_placed : Program → List Frame → Bool
is_placed p [] = true
is_placed p (f ∷ rest) = is_some (step_at p f.proc f.at)

-- whether a step neither outputs nor takes a word, and neither begins nor ends a call
abbrev pub is_silent : Step → Bool
is_silent (Copy d s) = true
is_silent (Apply d op a b) = true
is_silent (Load d a) = true
is_silent (Store a v) = true
is_silent (If rel a b to) = true
is_silent (Goto to) = true
is_silent (When rel a b d s) = true
is_silent step = false

-- a step, if it is such a one
abbrev pub silent_part : Step → Option Step
silent_part step = if is_silent step then Some step else None

-- those steps of each procedure
abbrev pub code_of : Program → List SilentProc
code_of p = map (λ q. record { size = q.vars; steps = map silent_part q.steps }) p.procs

-- A run that was loaded with a program, and made steps of it: it has the variables and the silent steps of each procedure, its
-- calls were made one by the other, and there is a step to go on with.
pub record IsRunOf (p : Program) (r : Run) : Type 0 where
  pub sizes : r.sizes ≡ map (λ q. q.vars) p.procs
  pub code : r.code ≡ code_of p
  pub path : is_path p r.stack ≡ true
  pub placed : is_placed p r.stack ≡ true

-- ---- how a run is kept

-- the frames of a run, the topmost first, by its phase
abbrev pub stack_of : Phase → Calls → List Frame
stack_of Runs c = c.top ∷ c.below
stack_of Stopped c = c.top ∷ c.below
stack_of Returned c = []

-- how a run stands, by its phase
abbrev pub outcome_of : Phase → Outcome
outcome_of Runs = Running
outcome_of Stopped = Halted
outcome_of Returned = Halted

-- a state of which the calls, the data words and the phase are kept
abbrev pub state_of : Phase → Calls → (memory rest output : List ℕ) (steps : ℕ) → State
state_of phase c memory rest output steps =
    record { stack = stack_of phase c; memory = memory; rest = rest; output = output; steps = steps; outcome = outcome_of phase }

-- what is held where these are kept
abbrev pub run_of : Phase → Calls → (code : List SilentProc) (memory : List ℕ) (steps : ℕ) → Run
run_of phase c code memory steps = record {
  sizes = c.sizes;
  code = code;
  stack = stack_of phase c;
  memory = memory;
  steps = steps;
  outcome = outcome_of phase;
}

-- the calls are those of a run of the program
pub record AreCallsOf (p : Program) (c : Calls) : Type 0 where
  pub sizes : c.sizes ≡ map (λ q. q.vars) p.procs
  pub path : is_path p (c.top ∷ c.below) ≡ true

-- the output with a word after it, if there is one
abbrev pub put : List ℕ → Option ℕ → List ℕ
put output None = output
put output (Some word) = output ++ word ∷ []

-- whether there is such a step
abbrev pub is_silent_there : Option Step → Bool
is_silent_there step = option_map_or is_silent step false

-- whether the innermost of these calls stands at such a step
abbrev pub goes_silent : Program → List Frame → Bool
goes_silent p [] = false
goes_silent p (f ∷ rest) = is_silent_there (step_at p f.proc f.at)

-- the variable that takes the value of a call, where a step is a call that has one
abbrev pub destination : Step → Option ℕ
destination (Invoke d callee args) = d
destination step = None

-- a call of a procedure
abbrev pub frame : (proc at : ℕ) (vars : List ℕ) → Frame
frame proc at vars = record { proc = proc; at = at; vars = vars }

-- a state that runs, whose innermost call is here
abbrev pub going : (proc at : ℕ) (vars : List ℕ) (callers : List Frame) (memory rest output : List ℕ) (steps : ℕ) → State
going proc at vars callers memory rest output steps =
    record {
      stack = frame proc at vars ∷ callers;
      memory = memory;
      rest = rest;
      output = output;
      steps = steps;
      outcome = Running;
    }

-- the silent step at a place, if there is one
abbrev pub silent_at : Program → (proc at : ℕ) → Option Step
silent_at p proc at = option_map_or silent_part (step_at p proc at) None

-- the steps at their places are the silent ones of a procedure
abbrev pub AreSilentOf : Program → (proc : ℕ) → List (Option Step) → Type 0
AreSilentOf p proc steps = (at : ℕ) → slice_index_or steps at None ≡ silent_at p proc at

-- a procedure has no step at a place that is not below this number
abbrev pub HasSteps : Program → (proc count : ℕ) → Type 0
HasSteps p proc count = (at : ℕ) → is_some (step_at p proc at) ≡ true → at < count

-- A step without a word of the input leads the innermost call from one place to another, whatever program and state it is in,
-- and changes its variables and the data words so.
abbrev pub GoesTo : Units → (at to : ℕ) (vars new_vars memory new_memory : List ℕ) → Step → Type 0
GoesTo u at to vars new_vars memory new_memory step =
    (takes step ≡ false) × ((p : Program) (proc : ℕ) (callers : List Frame) (rest output : List ℕ) (steps : ℕ)
    → carry_out u p (going proc at vars callers memory rest output steps) (frame proc at vars) callers step
    ≡ going proc to new_vars callers new_memory rest output steps)
