-- What a program outputs only grows.
use Rattle.std.proofs.Common.{◌≡◌, ◌≤◌, ◌+◌, ◌-◌, ◌∷◌, [], ℕ, zero, suc, Bool, List, Option, Some, None, true, false, refl, sym, ap, ◌∙◌, subst, arith}
use Rattle.std.specs.Prelude.{if◌then◌else◌}
use Rattle.std.specs.Option.{option_map_or}
use Rattle.tta_list.specs.Prefix.{IsPrefixOf}
use Rattle.tta_list.specs.Iterate.{iterate}
use Rattle.tta_list.proofs.Prefixes.{prefix_same, prefix_chain}
use Rattle.tta_list.proofs.Iterated.{iterate-add}
use Rattle.tta_ops.specs.Units.{Units}
use Rattle.tta_program.specs.declared.step.Step.{Step}
use Rattle.tta_program.specs.declared.step.Step.TheVariants.{Copy, Apply, Load, Take, Store, Put, If, Goto, When, Invoke, Return, Halt, End}
use Rattle.tta_program.specs.Program.{Program}
use Rattle.tta_program.specs.Sequential.{State, Frame, Outcome, Running, Halted, Waiting, step_at, holds, operand, next, next_of, go_on, carry_out, goes_through, waits, returns, take_value, assigns, goes_to}

module _ (u : Units) (p : Program) where
  value_output : (s : State) (g : Frame) (callers : List Frame) (v : ℕ) (step : Option Step) → (take_value s g callers v step).output ≡ s.output
  value_output s g callers v (Some (Invoke (Some d) callee args)) = refl
  value_output s g callers v (Some (Invoke None callee args)) = refl
  value_output s g callers v step = refl

  -- a return outputs nothing
  returns_output : (s : State) (callers : List Frame) (v : ℕ) → (returns p s callers v).output ≡ s.output
  returns_output s [] v = refl
  returns_output s (g ∷ callers) v = value_output s g callers v (step_at p g.proc g.at)

  -- a copy under a condition outputs nothing
  when_output : (s : State) (f : Frame) (callers : List Frame) (d v : ℕ) (b : Bool)
      → (if b then assigns s f callers d v else goes_to s f callers (f.at + 1)).output ≡ s.output
  when_output s f callers d v true = refl
  when_output s f callers d v false = refl

  -- the output only grows in what a step does
  pub carry_grows : (s : State) (f : Frame) (callers : List Frame) (step : Step) → IsPrefixOf s.output (carry_out u p s f callers step).output
  carry_grows s f callers (Copy d v) = prefix_same _ _ refl
  carry_grows s f callers (Apply d op a b) = prefix_same _ _ refl
  carry_grows s f callers (Load d a) = prefix_same _ _ refl
  carry_grows s f callers (Take d) = prefix_same _ _ refl
  carry_grows s f callers (Store a v) = prefix_same _ _ refl
  carry_grows s f callers (Put v) = (operand f.vars v ∷ [], refl)
  carry_grows s f callers (If rel a b to) = prefix_same _ _ refl
  carry_grows s f callers (Goto to) = prefix_same _ _ refl
  carry_grows s f callers (When rel a b d v) = prefix_same _ _ (sym (when_output s f callers d (operand f.vars v) (holds u rel (operand f.vars a) (operand f.vars b))))
  carry_grows s f callers (Invoke d callee args) = prefix_same _ _ refl
  carry_grows s f callers (Return (Some v)) = prefix_same _ _ (sym (returns_output s callers (operand f.vars v)))
  carry_grows s f callers (Return None) = prefix_same _ _ (sym (returns_output s callers 0))
  carry_grows s f callers Halt = prefix_same _ _ refl
  carry_grows s f callers End = prefix_same _ _ (sym (returns_output s callers 0))

  -- in a step that may wait
  through_grows : (s : State) (f : Frame) (callers : List Frame) (step : Step) → IsPrefixOf s.output (goes_through u p s f callers step).output
  through_grows s f callers step = by (waits s step) where
    by : (b : Bool) → IsPrefixOf s.output (if b then record s { outcome = Waiting } else carry_out u p (record s { steps = s.steps + 1 }) f callers step).output
    by true = prefix_same _ _ refl
    by false = carry_grows (record s { steps = s.steps + 1 }) f callers step

  -- in the step that stands next
  go_grows : (s : State) (stack : List Frame) → IsPrefixOf s.output (go_on u p s stack).output
  go_grows s [] = prefix_same _ _ refl
  go_grows s (f ∷ callers) = by (step_at p f.proc f.at) where
    by : (step : Option Step) → IsPrefixOf s.output (option_map_or (goes_through u p s f callers) step s).output
    by None = prefix_same _ _ refl
    by (Some step) = through_grows s f callers step

  -- from a state to the next one
  next_grows : (s : State) → IsPrefixOf s.output (next u p s).output
  unfolding next
  next_grows s = by s.outcome where
    by : (o : Outcome) → IsPrefixOf s.output (next_of u p s o).output
    by Running = go_grows s s.stack
    by Halted = prefix_same _ _ refl
    by Waiting = prefix_same _ _ refl

  -- and over some steps
  grows : (n : ℕ) (s : State) → IsPrefixOf s.output (iterate n (next u p) s).output
  grows zero s = prefix_same _ _ refl
  grows (suc n) s = prefix_chain s.output (iterate n (next u p) s).output (next u p (iterate n (next u p) s)).output (grows n s) (next_grows (iterate n (next u p) s))

  -- a later state has output more
  pub later_output : (m n : ℕ) (s : State) → m ≤ n → IsPrefixOf (iterate m (next u p) s).output (iterate n (next u p) s).output
  later_output m n s le =
      let e : n ≡ m + (n - m) = omega (arith, le) in
      subst (λ x. IsPrefixOf (iterate m (next u p) s).output x.output) (sym (ap (λ k. iterate k (next u p) s) e ∙ iterate-add m (n - m) (next u p) s))
      (grows (n - m) (iterate m (next u p) s))
