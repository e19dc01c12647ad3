-- The rules that every program keeps.
use Rattle.std.specs.Prelude.{◌≡◌, ℕ, ◌+◌, ◌≤◌, ◌^◌, ◌==◌, Bool, true, false, not, ◌&&◌, nat_lt, List, [], ◌∷◌, length, slice_get}
use Rattle.std.specs.Option.{option_map_or}
use Rattle.std.specs.List.{list_all, list_any, AllByRecursion}
use Rattle.tta_program.specs.declared.operand.Src.{Src}
use Rattle.tta_program.specs.declared.operand.Src.TheVariants.{Var, Word}
use Rattle.tta_program.specs.declared.step.Step.{Step}
use Rattle.tta_program.specs.declared.step.Step.TheVariants.{Copy, Apply, Load, Store, Put, Take, If, Goto, When, Invoke, Return, Halt, End}
use Rattle.tta_program.specs.declared.program.Proc.{Proc}
use Rattle.tta_program.specs.declared.program.DataLine.{DataLine}
use Rattle.tta_program.specs.Program.{Program, step_count}

-- ---- steps

-- an operand: a variable that there is, or a word
abbrev pub is_src : (vars : ℕ) → Src → Bool
is_src vars (Var x) = nat_lt x vars
is_src vars (Word w) = nat_lt w (2 ^ 32)

-- a call: a procedure that there is and is not main, with as many arguments as it has parameters
abbrev pub is_call : Program → ℕ → List Src → Bool
is_call p callee args =
    not (callee == p.main) && option_map_or (λ q. length args == q.params) (slice_get p.procs callee) false

-- a step of a procedure: its variables, targets and callees are there
abbrev pub is_step : Program → Proc → Step → Bool
is_step p q (Copy d s) = nat_lt d q.vars && is_src q.vars s
is_step p q (Apply d op a b) = nat_lt d q.vars && is_src q.vars a && is_src q.vars b
is_step p q (Load d a) = nat_lt d q.vars && is_src q.vars a
is_step p q (Store a v) = is_src q.vars a && is_src q.vars v
is_step p q (Put v) = is_src q.vars v
is_step p q (Take d) = nat_lt d q.vars
is_step p q (If rel a b to) = is_src q.vars a && is_src q.vars b && nat_lt to (length q.steps)
is_step p q (Goto to) = nat_lt to (length q.steps)
is_step p q (When rel a b d s) = is_src q.vars a && is_src q.vars b && nat_lt d q.vars && is_src q.vars s
is_step p q (Invoke d callee args) =
    option_map_or (λ x. nat_lt x q.vars) d true && list_all (is_src q.vars) args && is_call p callee args
is_step p q (Return s) = option_map_or (is_src q.vars) s true
is_step p q Halt = true
is_step p q End = true

-- the step that ends a procedure
abbrev pub is_end : Step → Bool
is_end End = true
is_end step = false

-- whether the last step is End, and no other is
abbrev pub ends_once : List Step → Bool
ends_once [] = false
ends_once (End ∷ []) = true
ends_once (End ∷ steps) = false
ends_once (step ∷ steps) = ends_once steps

-- ---- procedures

-- a procedure: at most 8 parameters, at most 4,096 variables with the parameters among them, and a line for each step
pub record IsProc (p : Program) (q : Proc) : Type 0 where
  pub params : q.params ≤ 8
  pub vars : q.vars ≤ 4096
  pub among : q.params ≤ q.vars
  pub steps : list_all (is_step p q) q.steps ≡ true
  pub ends : ends_once q.steps ≡ true
  pub lines : length q.lines ≡ length q.steps

-- ---- calls

-- whether a step calls a procedure
abbrev pub calls_proc : ℕ → Step → Bool
calls_proc callee (Invoke d k args) = k == callee
calls_proc callee step = false

-- whether a procedure has a call of another
abbrev pub calls : Program → (caller callee : ℕ) → Bool
calls p caller callee = option_map_or (λ q. list_any (calls_proc callee) q.steps) (slice_get p.procs caller) false

-- one procedure leads to another by one call or more
pub data Reaches (p : Program) : (from to : ℕ) → Type 0 where
  ByCall : (from to : ℕ) → calls p from to ≡ true → Reaches p from to
  ByMore : (from via to : ℕ) → calls p from via ≡ true → Reaches p via to → Reaches p from to

-- ---- data

-- a word of data: its address and its value are words
abbrev pub is_datum : DataLine → Bool
is_datum d = nat_lt d.address (2 ^ 32) && nat_lt d.value (2 ^ 32)

-- whether no address stands twice
abbrev pub are_apart : List DataLine → Bool
are_apart [] = true
are_apart (d ∷ ds) = not (list_any (λ e. e.address == d.address) ds) && are_apart ds

-- ---- programs

-- Every program is so: at most 65,536 lines that are not blank, so no more steps, procedures and data; main is there and
-- has no parameters; no procedure leads back to itself; and no two data have one address.
pub record IsProgram (p : Program) : Type 0 where
  pub lines : step_count p + length p.procs + length p.init ≤ 65536
  pub procs : AllByRecursion (IsProc p) p.procs
  pub main : option_map_or (λ q. q.params == 0) (slice_get p.procs p.main) false ≡ true
  pub acyclic : (k : ℕ) → Reaches p k k → ⊥
  pub init : list_all is_datum p.init ≡ true
  pub apart : are_apart p.init ≡ true
