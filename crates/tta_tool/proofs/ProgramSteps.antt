-- The steps of a program: one that has halted stays, and each other is counted.
use Rattle.std.proofs.Common.{◌≡◌, ℕ, zero, suc, ◌+◌, ◌⊎◌, inl, inr, Bool, true, false, if◌then◌else◌, List, [], ◌∷◌, Option, Some, None, refl, sym, ap, ◌∙◌, arith}
use Rattle.std.specs.Option.{option_map_or}
use Rattle.tta_tool.specs.Cited.{iterate, Units, Step, When, Invoke, Return, End, Program, Frame, go_on, goes_through, take_value, assigns, goes_to, operand, holds, step_at}
use Rattle.tta_program.specs.Sequential.{State, Outcome, Running, Halted, Waiting, next, next_of, waits, carry_out, returns}

-- ---- counting

took : (s : State) (caller : Frame) (rest : List Frame) (v : ℕ) (o : Option Step) → (take_value s caller rest v o).steps ≡ s.steps
took s caller rest v (Some (Invoke (Some d) callee args)) = refl
took s caller rest v (Some (Invoke None callee args)) = refl
took s caller rest v o = refl

returned : (p : Program) (s : State) (rest : List Frame) (v : ℕ) → (returns p s rest v).steps ≡ s.steps
returned p s [] v = refl
returned p s (caller ∷ rest) v = took s caller rest v (step_at p caller.proc caller.at)

chosen : (s t t' : State) (b : Bool) → t.steps ≡ s.steps → t'.steps ≡ s.steps → (if b then t else t').steps ≡ s.steps
chosen s t t' true e e' = e
chosen s t t' false e e' = e'

carried : (u : Units) (p : Program) (s : State) (f : Frame) (rest : List Frame) (step : Step) → (carry_out u p s f rest step).steps ≡ s.steps
carried u p s f rest (When rel a b d v) =
    chosen s (assigns s f rest d (operand f.vars v)) (goes_to s f rest (f.at + 1)) (holds u rel (operand f.vars a) (operand f.vars b)) refl refl
carried u p s f rest (Return (Some v)) = returned p s rest (operand f.vars v)
carried u p s f rest (Return None) = returned p s rest 0
carried u p s f rest End = returned p s rest 0
carried u p s f rest step = refl

-- a step leaves a state as it is, makes it wait, or is counted
abbrev Counts : State → State → Type 0
Counts s t = (t ≡ s) ⊎ (t.outcome ≡ Waiting) ⊎ (t.steps ≡ s.steps + 1)

went_on : (u : Units) (p : Program) (s : State) (stack : List Frame) → Counts s (go_on u p s stack)
went_on u p s [] = inl refl
went_on u p s (f ∷ rest) = at (step_at p f.proc f.at) where
  counted : State
  counted = record s { steps = s.steps + 1 }

  through : (step : Step) (b : Bool) → Counts s (if b then record s { outcome = Waiting } else carry_out u p counted f rest step)
  through step true = inr (inl refl)
  through step false = inr (inr (carried u p counted f rest step))

  at : (o : Option Step) → Counts s (option_map_or (goes_through u p s f rest) o s)
  at None = inl refl
  at (Some step) = through step (waits s step)

counts : (u : Units) (p : Program) (s : State) → Counts s (next u p s)
unfolding next
counts u p s = of s s.outcome where
  of : (s : State) (o : Outcome) → Counts s (next_of u p s o)
  of s Running = went_on u p s s.stack
  of s Halted = inl refl
  of s Waiting = inl refl

waiting_stays : (u : Units) (p : Program) (s : State) → s.outcome ≡ Waiting → next u p s ≡ s
unfolding next
waiting_stays u p s is = ap (next_of u p s) is

-- a run from its start comes to a state in as many steps as that has counted, unless it waits
pub reached : (u : Units) (p : Program) (s : State) → s.steps ≡ 0 → (n : ℕ)
    → ((iterate n (next u p) s).outcome ≡ Waiting) ⊎ (iterate (iterate n (next u p) s).steps (next u p) s ≡ iterate n (next u p) s)
reached u p s none zero = inr (ap (λ k. iterate k (next u p) s) none)
reached u p s none (suc n) = of (reached u p s none n) (counts u p (iterate n (next u p) s)) where
  t : State
  t = iterate n (next u p) s

  is : t.steps + 1 ≡ suc t.steps
  is = omega arith

  of : (t.outcome ≡ Waiting) ⊎ (iterate t.steps (next u p) s ≡ t) → Counts t (next u p t)
      → ((next u p t).outcome ≡ Waiting) ⊎ (iterate (next u p t).steps (next u p) s ≡ next u p t)
  of (inl waiting) counted = inl (ap (λ (x : State). x.outcome) (waiting_stays u p t waiting) ∙ waiting)
  of (inr at) (inl stays) = inr (ap (λ (x : State). iterate x.steps (next u p) s) stays ∙ at ∙ sym stays)
  of (inr at) (inr (inl waiting)) = inl waiting
  of (inr at) (inr (inr counted)) = inr (ap (λ k. iterate k (next u p) s) (counted ∙ is) ∙ ap (next u p) at)

-- so does one that has halted
pub halts_by_its_steps : (u : Units) (p : Program) (s : State) → s.steps ≡ 0 → (n : ℕ) → (iterate n (next u p) s).outcome ≡ Halted
    → iterate (iterate n (next u p) s).steps (next u p) s ≡ iterate n (next u p) s
halts_by_its_steps u p s none n halted = of (reached u p s none n) where
  differ : Halted ≡ Waiting → ⊥
  differ e = cc

  of : ((iterate n (next u p) s).outcome ≡ Waiting) ⊎ (iterate (iterate n (next u p) s).steps (next u p) s ≡ iterate n (next u p) s)
      → iterate (iterate n (next u p) s).steps (next u p) s ≡ iterate n (next u p) s
  of (inl waiting) = absurd (differ (sym halted ∙ waiting))
  of (inr at) = at
