-- What a program does, step by step.
use Rattle.std.specs.Prelude.{ℕ, ◌+◌, ◌-◌, ◌%◌, ◌==◌, Bool, false, not, if◌then◌else◌, List, [], ◌∷◌, ◌++◌, length, map, replicate, Option, Some, None, slice_get, slice_index, slice_set, codes, drop, is_none, ◌&&◌, true}
use Rattle.std.specs.Option.{option_map_or}
use Rattle.tta_list.specs.Iterate.{iterate}
use Rattle.tta_ops.specs.Units.{Units, named}
use Rattle.tta_program.specs.declared.operand.Src.{Src}
use Rattle.tta_program.specs.declared.operand.Src.TheVariants.{Var, Word}
use Rattle.tta_program.specs.declared.operand.Rel.{Rel}
use Rattle.tta_program.specs.declared.operand.Rel.TheVariants.{Eq, Ne, Lt, Ge, Ltu, Geu}
use Rattle.tta_program.specs.declared.step.Step.{Step}
use Rattle.tta_program.specs.declared.step.Step.TheVariants.{Copy, Apply, Load, Store, Put, Take, If, Goto, When, Invoke, Return, Halt, End}
use Rattle.tta_program.specs.Program.{Program}

-- ---- states

-- a procedure that was called: which it is, the step that comes next, and the words of its variables
pub record Frame : Type 0 where
  pub proc : ℕ
  pub at : ℕ
  pub vars : List ℕ

-- whether a run goes on, has halted, or waits for a word of the input
pub data Outcome : Type 0 where
  Running : Outcome
  Halted : Outcome
  Waiting : Outcome

-- the calls that are under way, the innermost first; the data words; the rest of the input; what was output; and how
-- many steps were made
pub record State : Type 0 where
  pub stack : List Frame
  pub memory : List ℕ
  pub rest : List ℕ
  pub output : List ℕ
  pub steps : ℕ
  pub outcome : Outcome

-- ---- operands and conditions

-- the word that an operand stands for
abbrev pub operand : List ℕ → Src → ℕ
operand vars (Var x) = slice_index vars x
operand vars (Word w) = w

-- whether the operation of a name is odd on two words
abbrev pub is_odd : Units → List ℕ → ℕ → ℕ → Bool
is_odd u name a b = option_map_or (λ op. u.value op a b % 2 == 1) (named u name) false

-- whether a condition holds: by the low bit of the operation eq, lt or ltu
abbrev pub holds : Units → Rel → ℕ → ℕ → Bool
holds u Eq a b = is_odd u (codes "eq") a b
holds u Ne a b = not (is_odd u (codes "eq") a b)
holds u Lt a b = is_odd u (codes "lt") a b
holds u Ge a b = not (is_odd u (codes "lt") a b)
holds u Ltu a b = is_odd u (codes "ltu") a b
holds u Geu a b = not (is_odd u (codes "ltu") a b)

-- ---- one step

-- a procedure with its arguments, and 0 in every other variable
abbrev pub enter : Program → ℕ → List ℕ → Frame
enter p proc args =
    record { proc = proc; at = 0; vars = args ++ replicate (option_map_or (λ q. q.vars) (slice_get p.procs proc) 0 - length args) 0 }

-- the step at a place, if there is one
abbrev pub step_at : Program → ℕ → ℕ → Option Step
step_at p proc at = option_map_or (λ q. slice_get q.steps at) (slice_get p.procs proc) None

-- the innermost call goes on at a step
abbrev pub goes_to : State → Frame → List Frame → ℕ → State
goes_to s f callers to = record s { stack = record f { at = to } ∷ callers }

-- the innermost call goes on after an assignment
abbrev pub assigns : State → Frame → List Frame → ℕ → ℕ → State
assigns s f callers d v = record s { stack = record f { at = f.at + 1; vars = slice_set f.vars d v } ∷ callers }

-- the run ends
abbrev pub halts : State → State
halts s = record s { outcome = Halted }

-- the caller takes the returned value where its call has a destination, and goes on after the call
abbrev pub take_value : State → Frame → List Frame → ℕ → Option Step → State
take_value s caller callers v (Some (Invoke (Some d) callee args)) = assigns s caller callers d v
take_value s caller callers v (Some (Invoke None callee args)) = goes_to s caller callers (caller.at + 1)
take_value s caller callers v step = goes_to s caller callers (caller.at + 1)

-- the innermost call ends with a value; where there is no other, the run halts
abbrev pub returns : Program → State → List Frame → ℕ → State
returns p s [] v = halts (record s { stack = [] })
returns p s (caller ∷ callers) v = take_value s caller callers v (step_at p caller.proc caller.at)

-- whether a step takes a word of the input
abbrev pub takes : Step → Bool
takes (Take d) = true
takes step = false

-- whether a step has to wait: it takes a word of the input, and none is left
abbrev pub waits : State → Step → Bool
waits s step = takes step && is_none (slice_get s.rest 0)

-- a step that need not wait, carried out by the innermost call
abbrev pub carry_out : Units → Program → State → Frame → List Frame → Step → State
carry_out u p s f callers (Copy d v) = assigns s f callers d (operand f.vars v)
carry_out u p s f callers (Apply d op a b) = assigns s f callers d (u.value op.0 (operand f.vars a) (operand f.vars b))
carry_out u p s f callers (Load d a) = assigns s f callers d (slice_index s.memory (operand f.vars a))
carry_out u p s f callers (Store a v) =
    goes_to (record s { memory = slice_set s.memory (operand f.vars a) (operand f.vars v) }) f callers (f.at + 1)
carry_out u p s f callers (Put v) = goes_to (record s { output = s.output ++ operand f.vars v ∷ [] }) f callers (f.at + 1)
carry_out u p s f callers (Take d) = assigns (record s { rest = drop 1 s.rest }) f callers d (slice_index s.rest 0)
carry_out u p s f callers (If rel a b to) =
    goes_to s f callers (if holds u rel (operand f.vars a) (operand f.vars b) then to else f.at + 1)
carry_out u p s f callers (Goto to) = goes_to s f callers to
carry_out u p s f callers (When rel a b d v) =
    if holds u rel (operand f.vars a) (operand f.vars b) then assigns s f callers d (operand f.vars v) else goes_to s f callers (f.at + 1)
carry_out u p s f callers (Invoke d callee args) =
    record s { stack = enter p callee (map (operand f.vars) args) ∷ f ∷ callers }
carry_out u p s f callers (Return (Some v)) = returns p s callers (operand f.vars v)
carry_out u p s f callers (Return None) = returns p s callers 0
carry_out u p s f callers Halt = halts s
carry_out u p s f callers End = returns p s callers 0

-- a step that waits is not counted, and any other counts as one
abbrev pub goes_through : Units → Program → State → Frame → List Frame → Step → State
goes_through u p s f callers step =
    if waits s step then record s { outcome = Waiting } else carry_out u p (record s { steps = s.steps + 1 }) f callers step

-- the step that the innermost call has come to
abbrev pub go_on : Units → Program → State → List Frame → State
go_on u p s [] = s
go_on u p s (f ∷ callers) = option_map_or (goes_through u p s f callers) (step_at p f.proc f.at) s

-- a state that runs goes on, and any other stays
abbrev pub next_of : Units → Program → State → Outcome → State
next_of u p s Running = go_on u p s s.stack
next_of u p s Halted = s
next_of u p s Waiting = s

-- one step of a state that runs; a state that has halted or waits stays
unfoldable pub next : Units → Program → State → State
next u p s = next_of u p s s.outcome

-- ---- a run

-- main at its first step, every variable 0
abbrev pub start : Program → (memory input : List ℕ) → State
start p memory input =
    record { stack = enter p p.main [] ∷ []; memory = memory; rest = input; output = []; steps = 0; outcome = Running }

-- the state after n steps
abbrev pub seq : Units → Program → (memory input : List ℕ) → ℕ → State
seq u p memory input n = iterate n (next u p) (start p memory input)
