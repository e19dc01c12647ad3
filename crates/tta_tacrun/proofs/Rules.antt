-- What the rules of a program say of the variables of its steps.
use Rattle.std.proofs.Common.{◌≡◌, ◌&&◌, ℕ, true, List, [], ◌∷◌, length, map, get_or, slice_get, Option, Some, None, refl, ap, sym, ◌∙◌, subst}
use Rattle.std.specs.Prelude.{nat_lt}
use Rattle.std.specs.Option.{option_map_or}
use Rattle.std.specs.List.{list_all}
use Rattle.tta_list.proofs.Lists.{list_all_one, all_one}
use Rattle.tta_list.proofs.Tests.{and_left, and_map}
use Rattle.tta_tacrun.specs.Cited.{Step, Put, Take, Invoke, Return, Halt, End, Proc, Program, IsProgram, IsProc, is_src, is_step, step_at}
use Rattle.tta_program.specs.declared.step.Step.TheVariants.{Copy, Apply, Load, Store, If, Goto, When}
use Rattle.tta_tacrun.specs.Flat.{has_variables}
use Rattle.tta_tacrun.proofs.Calling.{size_at}

-- a step of a procedure has its variables
pub step_variables : (p : Program) (q : Proc) (step : Step) → is_step p q step ≡ true → has_variables q.vars step ≡ true
step_variables p q (Copy d s) good = good
step_variables p q (Apply d op a b) good = good
step_variables p q (Load d a) good = good
step_variables p q (Store a v) good = good
step_variables p q (Put v) good = refl
step_variables p q (Take d) good = refl
step_variables p q (If rel a b to) good = and_left (is_src q.vars a && is_src q.vars b) (nat_lt to (length q.steps)) good
step_variables p q (Goto to) good = refl
step_variables p q (When rel a b d s) good = good
step_variables p q (Invoke d callee args) good = refl
step_variables p q (Return s) good = refl
step_variables p q Halt good = refl
step_variables p q End good = refl

all_variables : (p : Program) (q : Proc) (steps : List Step) → list_all (is_step p q) steps ≡ true → list_all (has_variables q.vars) steps ≡ true
all_variables p q [] good = refl
all_variables p q (step ∷ steps) good = and_map (step_variables p q step) (all_variables p q steps) good

-- so have all steps of a procedure of a program
pub proc_variables : (p : Program) → IsProgram p → (i : ℕ) (q : Proc) → slice_get p.procs i ≡ Some q → list_all (has_variables q.vars) q.steps ≡ true
proc_variables p rules i q here = all_variables p q q.steps (all_one (IsProc p) p.procs i q rules.procs here).steps

-- and the step that a call has come to
pub step_there : (p : Program) → IsProgram p → (proc at : ℕ) (step : Step) → step_at p proc at ≡ Some step
    → has_variables (get_or (map (λ q. q.vars) p.procs) proc 0) step ≡ true
step_there p rules proc at step here = by (slice_get p.procs proc) refl here where
  by : (q : Option Proc) → slice_get p.procs proc ≡ q → option_map_or (λ q. slice_get q.steps at) q None ≡ Some step
      → has_variables (get_or (map (λ q. q.vars) p.procs) proc 0) step ≡ true
  by None there here = cc
  by (Some q) there here =
      let size : get_or (map (λ q. q.vars) p.procs) proc 0 ≡ q.vars = size_at p.procs proc ∙ ap (λ o. option_map_or (λ q. q.vars) o 0) there in
      subst (λ n. has_variables n step ≡ true) (sym size) (list_all_one (has_variables q.vars) q.steps at step (proc_variables p rules proc q there) here)
