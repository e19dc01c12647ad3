-- The output of a program grows with each step, and a state that waits stays and reports that.
use Rattle.std.proofs.Common.{◌≡◌, ℕ, ◌+◌, Bool, true, false, if◌then◌else◌, List, [], ◌∷◌, ◌++◌, Option, Some, None, refl, sym, append-nil, ◌∙◌}
use Rattle.std.specs.Option.{option_map_or}
use Rattle.tta_tool.specs.Cited.{Units, Step, Put, When, Invoke, Return, End, Program, Frame, go_on, goes_through, take_value, assigns, goes_to, operand, holds, step_at, OutputGrows, WaitStays, WaitReports}
use Rattle.tta_program.specs.Sequential.{State, Outcome, Running, Halted, Waiting, next, next_of, waits, carry_out, returns}
use Rattle.tta_tool.specs.Steps.{meaning_of, reports}

-- one state's output begins another's
abbrev Grew : State → State → Type 0
Grew s t = (more : List ℕ) × (t.output ≡ s.output ++ more)

-- a list that is the same begins itself
same : (xs ys : List ℕ) → ys ≡ xs → (more : List ℕ) × (ys ≡ xs ++ more)
same xs ys e = ([], e ∙ sym (append-nil xs))

-- a call whose value is taken
took : (s : State) (caller : Frame) (rest : List Frame) (v : ℕ) (o : Option Step) → (take_value s caller rest v o).output ≡ s.output
took s caller rest v (Some (Invoke (Some d) callee args)) = refl
took s caller rest v (Some (Invoke None callee args)) = refl
took s caller rest v o = refl

-- a call that returns
returned : (p : Program) (s : State) (rest : List Frame) (v : ℕ) → (returns p s rest v).output ≡ s.output
returned p s [] v = refl
returned p s (caller ∷ rest) v = took s caller rest v (step_at p caller.proc caller.at)

-- either of two states that have output the same
chosen : (s t t' : State) (b : Bool) → t.output ≡ s.output → t'.output ≡ s.output → (if b then t else t').output ≡ s.output
chosen s t t' true e e' = e
chosen s t t' false e e' = e'

-- a step that need not wait
carried : (u : Units) (p : Program) (s : State) (f : Frame) (rest : List Frame) (step : Step) → Grew s (carry_out u p s f rest step)
carried u p s f rest (Put v) = (operand f.vars v ∷ [], refl)
carried u p s f rest (When rel a b d v) =
    same s.output _ (chosen s (assigns s f rest d (operand f.vars v)) (goes_to s f rest (f.at + 1)) (holds u rel (operand f.vars a) (operand f.vars b)) refl refl)
carried u p s f rest (Return (Some v)) = same s.output _ (returned p s rest (operand f.vars v))
carried u p s f rest (Return None) = same s.output _ (returned p s rest 0)
carried u p s f rest End = same s.output _ (returned p s rest 0)
carried u p s f rest step = same s.output _ refl

-- the step that the innermost call has come to
went_on : (u : Units) (p : Program) (s : State) (stack : List Frame) → Grew s (go_on u p s stack)
went_on u p s [] = same s.output s.output refl
went_on u p s (f ∷ rest) = at (step_at p f.proc f.at) where
  counted : State
  counted = record s { steps = s.steps + 1 }

  through : (step : Step) (b : Bool) → Grew s (if b then record s { outcome = Waiting } else carry_out u p counted f rest step)
  through step true = same s.output s.output refl
  through step false = carried u p counted f rest step

  at : (o : Option Step) → Grew s (option_map_or (goes_through u p s f rest) o s)
  at None = same s.output s.output refl
  at (Some step) = through step (waits s step)

-- a step outputs after what was output before
pub steps_grow : (u : Units) (p : Program) → OutputGrows (meaning_of u p)
unfolding next
steps_grow u p = λ s. of s s.outcome where
  of : (s : State) (o : Outcome) → Grew s (next_of u p s o)
  of s Running = went_on u p s s.stack
  of s Halted = same s.output s.output refl
  of s Waiting = same s.output s.output refl

-- a state that waits stays, and has output what it had before
pub steps_wait : (u : Units) (p : Program) → WaitStays (meaning_of u p)
unfolding next
steps_wait u p = record { stays = λ s. refl; output = λ s. refl }

-- and it reports that it waits
pub steps_report : (u : Units) (p : Program) → WaitReports (meaning_of u p) reports
steps_report u p = record { ended = λ s. refl; memory = λ s. refl; count = λ s. refl }
