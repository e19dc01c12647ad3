-- A step leads to a step.
use Rattle.std.proofs.Common.{◌≡◌, ◌+◌, ◌&&◌, ◌==◌, ℕ, zero, suc, Bool, true, false, not, List, [], ◌∷◌, length, map, slice_get, Option, Some, None, is_some, refl, ap, ◌∙◌, add-one}
use Rattle.std.specs.Prelude.{if◌then◌else◌, nat_lt, slice_index}
use Rattle.std.specs.Option.{option_map_or}
use Rattle.tta_list.proofs.Lists.{list_all_one, some_below, all_one}
use Rattle.tta_list.proofs.Tests.{and_right, and_left}
use Rattle.tta_tacrun.specs.Cited.{Units, Step, Put, Take, Invoke, Return, Halt, End, Proc, Program, IsProgram, IsProc, is_src, is_step, ends_once, calls_proc, Frame, State, step_at, takes, carry_out, enter, assigns, goes_to, holds, operand, take_value, is_end, left}
use Rattle.tta_program.specs.declared.step.Step.TheVariants.{Copy, Apply, Load, Store, If, Goto, When}
use Rattle.tta_program.specs.Sequential.{returns}
use Rattle.tta_tacrun.specs.declared.phase.Phase.{Phase}
use Rattle.tta_tacrun.specs.declared.phase.Phase.TheVariants.{Running as Runs, Stopped, Returned}
use Rattle.tta_tacrun.specs.Calls.{Calls}
use Rattle.tta_tacrun.specs.Run.{AreCallsOf, IsRunOf, SilentProc, code_of, is_called, is_path, is_placed, put, run_of, stack_of, state_of}
use Rattle.tta_tacrun.proofs.Calling.{call_of}

-- ---- the steps of a procedure

starts : (steps : List Step) → ends_once steps ≡ true → is_some (slice_get steps 0) ≡ true
starts [] ends = cc
starts (step ∷ steps) ends = refl

more_ends : (s : Step) (steps : List Step) → is_end s ≡ false → ends_once (s ∷ steps) ≡ ends_once steps
more_ends End steps other = cc
more_ends s steps other = refl

rest_ends : (s : Step) (steps : List Step) (i : ℕ) (step : Step) → ends_once (s ∷ steps) ≡ true → slice_get steps i ≡ Some step
    → ends_once steps ≡ true
rest_ends End [] i step ends here = cc
rest_ends End (t ∷ ts) i step ends here = cc
rest_ends s steps i step ends here = ends

-- after a step that is not End there is one more
one_more : (steps : List Step) (i : ℕ) (step : Step) → ends_once steps ≡ true → slice_get steps i ≡ Some step → is_end step ≡ false
    → is_some (slice_get steps (suc i)) ≡ true
one_more [] i step ends here other = cc
one_more (s ∷ []) zero step ends here other =
    let same : s ≡ step = cc in
    let none = more_ends s [] (ap is_end same ∙ other) in
    cc
one_more (s ∷ t ∷ ts) zero step ends here other = refl
one_more (s ∷ steps) (suc i) step ends here other = one_more steps i step (rest_ends s steps i step ends here) here other

-- ---- the places of a program

module _ (p : Program) (rules : IsProgram p) where
  next_placed : (proc at : ℕ) (step : Step) → step_at p proc at ≡ Some step → is_end step ≡ false
      → is_some (step_at p proc (at + 1)) ≡ true
  next_placed proc at step here other = rw add-one (by (slice_get p.procs proc) refl here) where
    by : (q : Option Proc) → slice_get p.procs proc ≡ q → option_map_or (λ q. slice_get q.steps at) q None ≡ Some step
        → is_some (option_map_or (λ q. slice_get q.steps (suc at)) q None) ≡ true
    by None there here = cc
    by (Some q) there here = one_more q.steps at step (all_one (IsProc p) p.procs proc q rules.procs there).ends here other

  target_placed : (proc at : ℕ) (step : Step) (to : ℕ) → step_at p proc at ≡ Some step
      → ((q : Proc) → is_step p q step ≡ true → nat_lt to (length q.steps) ≡ true)
      → is_some (step_at p proc to) ≡ true
  target_placed proc at step to here within = by (slice_get p.procs proc) refl here where
    by : (q : Option Proc) → slice_get p.procs proc ≡ q → option_map_or (λ q. slice_get q.steps at) q None ≡ Some step
        → is_some (option_map_or (λ q. slice_get q.steps to) q None) ≡ true
    by None there here = cc
    by (Some q) there here =
        let proc_rules = all_one (IsProc p) p.procs proc q rules.procs there in
        some_below q.steps to (within q (list_all_one (is_step p q) q.steps at step proc_rules.steps here))

  first_placed : (proc : ℕ) (test : Proc → Bool) → option_map_or test (slice_get p.procs proc) false ≡ true
      → is_some (step_at p proc 0) ≡ true
  first_placed proc test passes = by (slice_get p.procs proc) refl passes where
    by : (q : Option Proc) → slice_get p.procs proc ≡ q → option_map_or test q false ≡ true
        → is_some (option_map_or (λ q. slice_get q.steps 0) q None) ≡ true
    by None there passes = cc
    by (Some q) there passes = starts q.steps (all_one (IsProc p) p.procs proc q rules.procs there).ends

  pub main_placed : is_some (step_at p p.main 0) ≡ true
  main_placed = first_placed p.main (λ q. q.params == 0) rules.main

  -- ---- the step after each

  taken_placed : (s : State) (caller : Frame) (rest : List Frame) (v : ℕ) (step : Option Step)
      → is_some (step_at p caller.proc (caller.at + 1)) ≡ true → is_placed p (take_value s caller rest v step).stack ≡ true
  taken_placed s caller rest v (Some (Invoke (Some d) callee args)) placed = placed
  taken_placed s caller rest v (Some (Invoke None callee args)) placed = placed
  taken_placed s caller rest v step placed = placed

  -- a step that was made by a call is not End
  caller_placed : (callee proc at : ℕ) → option_map_or (calls_proc callee) (step_at p proc at) false ≡ true
      → is_some (step_at p proc (at + 1)) ≡ true
  caller_placed callee proc at called = by (step_at p proc at) refl called where
    is_not_end : (step : Step) → calls_proc callee step ≡ true → is_end step ≡ false
    is_not_end End calls = cc
    is_not_end step calls = refl

    by : (step : Option Step) → step_at p proc at ≡ step → option_map_or (calls_proc callee) step false ≡ true
        → is_some (step_at p proc (at + 1)) ≡ true
    by None here called = cc
    by (Some step) here called = next_placed proc at step here (is_not_end step called)

  returned_placed : (s : State) (f : Frame) (rest : List Frame) (v : ℕ) → is_path p (f ∷ rest) ≡ true
      → is_placed p (returns p s rest v).stack ≡ true
  returned_placed s f [] v path = refl
  returned_placed s f (caller ∷ rest) v path =
      taken_placed s caller rest v (step_at p caller.proc caller.at)
      (caller_placed f.proc caller.proc caller.at (and_left (is_called p f.proc (caller ∷ rest)) (is_path p (caller ∷ rest)) path))

  module _ (u : Units) (s : State) (f : Frame) (rest : List Frame) (path : is_path p (f ∷ rest) ≡ true) (stack : s.stack ≡ f ∷ rest) where
    pub carried_placed : (step : Step) → step_at p f.proc f.at ≡ Some step → is_placed p (carry_out u p s f rest step).stack ≡ true
    carried_placed (Copy d v) here = next_placed f.proc f.at (Copy d v) here refl
    carried_placed (Apply d op a b) here = next_placed f.proc f.at (Apply d op a b) here refl
    carried_placed (Load d a) here = next_placed f.proc f.at (Load d a) here refl
    carried_placed (Store a v) here = next_placed f.proc f.at (Store a v) here refl
    carried_placed (Put v) here = next_placed f.proc f.at (Put v) here refl
    carried_placed (Take d) here = next_placed f.proc f.at (Take d) here refl
    carried_placed (If rel a b to) here =
        elim (holds u rel (operand f.vars a) (operand f.vars b)) as (λ held. is_some (step_at p f.proc (if held then to else f.at + 1)) ≡ true) [
          | true ↦ target_placed f.proc f.at (If rel a b to) to here (λ q good. and_right (is_src q.vars a && is_src q.vars b) _ good)
          | false ↦ next_placed f.proc f.at (If rel a b to) here refl
        ]
    carried_placed (Goto to) here = target_placed f.proc f.at (Goto to) to here (λ q good. good)
    carried_placed (When rel a b d v) here =
        let next = next_placed f.proc f.at (When rel a b d v) here refl in
        elim (holds u rel (operand f.vars a) (operand f.vars b))
        as (λ held. is_placed p (if held then assigns s f rest d (operand f.vars v) else goes_to s f rest (f.at + 1)).stack ≡ true) [
          | true ↦ next
          | false ↦ next
        ]
    carried_placed (Invoke d callee args) here =
        first_placed callee (λ q. length args == q.params) (and_right (not (callee == p.main)) _ (call_of p rules f.proc f.at d callee args here))
    carried_placed (Return (Some v)) here = returned_placed s f rest (operand f.vars v) path
    carried_placed (Return None) here = returned_placed s f rest 0 path
    carried_placed Halt here = rw (stack, here) refl
    carried_placed End here = returned_placed s f rest 0 path

-- ---- runs

pub path_of : (p : Program) (phase : Phase) (c : Calls) → AreCallsOf p c → is_path p (stack_of phase c) ≡ true
path_of p Runs c calls = calls.path
path_of p Stopped c calls = calls.path
path_of p Returned c calls = refl

-- what a step made of the calls, the data words and the phase, whatever was output and is left of the input
abbrev pub Carries : Units → Program → (before after : Calls) (memory new_memory : List ℕ) → Phase → (word : Option ℕ) → Step → (next : ℕ) → Type 0
Carries u p c after memory new_memory phase word step next =
    (rest output : List ℕ) (n : ℕ) → slice_index rest 0 ≡ next
    → state_of phase after new_memory (left (takes step) rest) (put output word) n ≡ carry_out u p (state_of Runs c memory rest output n) c.top c.below step

pub run_carried : (p : Program) → IsProgram p → (u : Units) (c after : Calls) (memory new_memory : List ℕ) (phase : Phase) (word : Option ℕ)
    (step : Step) (next steps : ℕ) (code : List SilentProc) → code ≡ code_of p
    → is_path p (c.top ∷ c.below) ≡ true → step_at p c.top.proc c.top.at ≡ Some step → AreCallsOf p after
    → Carries u p c after memory new_memory phase word step next
    → IsRunOf p (run_of phase after code new_memory steps)
run_carried p rules u c after memory new_memory phase word step next steps code coded path here calls carried = record {
  sizes = calls.sizes;
  code = coded;
  path = path_of p phase after calls;
  placed =
      ap (λ s. is_placed p s.stack) (carried (next ∷ []) [] 0 refl)
      ∙ carried_placed p rules u (state_of Runs c memory (next ∷ []) [] 0) c.top c.below path refl step here;
}

pub run_started : (p : Program) → IsProgram p → (c : Calls) (code : List SilentProc) (memory : List ℕ) (steps : ℕ)
    → c ≡ record { sizes = map (λ q. q.vars) p.procs; top = enter p p.main []; below = [] } → code ≡ code_of p
    → IsRunOf p (run_of Runs c code memory steps)
run_started p rules c code memory steps is coded = rw is (
    let run : IsRunOf p (run_of Runs (record { sizes = map (λ q. q.vars) p.procs; top = enter p p.main []; below = [] }) code memory steps) =
    record { sizes = refl; code = coded; path = refl; placed = main_placed p rules } in
    run)
