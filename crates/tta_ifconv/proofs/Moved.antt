-- What a step of a program leaves, as the converted program leaves it: each call stands at the number of its step.
use Rattle.std.proofs.Common.{◌≡◌, ◌+◌, ℕ, Bool, List, [], ◌∷◌, ◌++◌, Option, Some, None, true, false, length, refl, sym, ap, ◌∙◌, subst, map}
use Rattle.std.specs.Prelude.{if◌then◌else◌, ◌-◌, replicate, slice_get, slice_index, slice_set, drop}
use Rattle.std.proofs.lemmas.Bool.{eq-eqb}
use Rattle.tta_ifconv.specs.Cited.{Units, Src, Step, Copy, Apply, Load, Store, Put, Take, If, Goto, When, Invoke, Return, Halt, End, Program, State, Frame, step_at, holds, operand, enter, carry_out, takes, take_value, assigns, goes_to}
use Rattle.tta_program.specs.Sequential.{returns}
use Rattle.tta_ifconv.specs.Triangles.{names, is_triangle, is_dropped, place, joined, renumbered}
use Rattle.tta_ifconv.specs.Converted.{Converted}
use Rattle.tta_ifconv.proofs.Places.{target_stays, next_stays, no_triangle, place_next}
use Rattle.tta_ifconv.proofs.Pairs.{steps_in, step_there, vars_there, step_of_proc}
use Rattle.tta_list.proofs.Lists.{any_there as any_from_one}

module _ (p : Program) where
  -- a call at the number of its step
  abbrev pub moved_frame : Frame → Frame
  moved_frame f = record { proc = f.proc; at = place (steps_in p f.proc) f.at; vars = f.vars }

  -- a state of the converted program, after so many steps
  abbrev pub moved : State → ℕ → State
  moved s n = record { stack = map moved_frame s.stack; memory = s.memory; rest = s.rest; output = s.output; steps = n; outcome = s.outcome }

  -- a call stands at a step that stays
  abbrev pub Stays : Frame → Type 0
  Stays f = is_dropped (steps_in p f.proc) f.at ≡ false

  -- a call waits for the end of another that it has called
  pub record IsCaller (f : Frame) : Type 0 where
    pub stays : Stays f
    pub d : Option ℕ
    pub callee : ℕ
    pub args : List Src
    pub call : step_at p f.proc f.at ≡ Some (Invoke d callee args)

  abbrev pub AreCallers : List Frame → Type 0
  AreCallers [] = Unit {0}
  AreCallers (f ∷ fs) = IsCaller f × AreCallers fs

  -- the innermost call stands at a step that stays, and the others wait
  abbrev pub Stands : List Frame → Type 0
  Stands [] = Unit {0}
  Stands (f ∷ fs) = Stays f × AreCallers fs

module _ (u : Units) (p q : Program) (is : Converted p q) where
  -- ---- what a step leaves

  assigns_moved : (s : State) (f : Frame) (fs : List Frame) (d v n : ℕ) → Stays p f
      → assigns (moved p s n) (moved_frame p f) (map (moved_frame p) fs) d v ≡ moved p (assigns s f fs d v) n
  assigns_moved s f fs d v n stays =
      ap (λ at. record { stack = record { proc = f.proc; at = at; vars = slice_set f.vars d v } ∷ map (moved_frame p) fs; memory = s.memory; rest = s.rest; output = s.output; steps = n; outcome = s.outcome })
      (sym (place_next (steps_in p f.proc) f.at stays))

  goes_moved : (s : State) (f : Frame) (fs : List Frame) (n : ℕ) → Stays p f
      → goes_to (moved p s n) (moved_frame p f) (map (moved_frame p) fs) (place (steps_in p f.proc) f.at + 1) ≡ moved p (goes_to s f fs (f.at + 1)) n
  goes_moved s f fs n stays =
      ap (λ at. record { stack = record { proc = f.proc; at = at; vars = f.vars } ∷ map (moved_frame p) fs; memory = s.memory; rest = s.rest; output = s.output; steps = n; outcome = s.outcome })
      (sym (place_next (steps_in p f.proc) f.at stays))

  -- a caller's call is in the converted program
  call_there : (f : Frame) → (c : IsCaller p f) → step_at q f.proc (place (steps_in p f.proc) f.at) ≡ Some (Invoke c.d c.callee c.args)
  call_there f c =
      let call = Invoke c.d c.callee c.args in
      step_there p q is f.proc f.at call c.call c.stays
      ∙ ap (λ b. Some (if b then joined call (slice_get (steps_in p f.proc) (f.at + 1)) else renumbered (place (steps_in p f.proc)) call))
      (no_triangle (steps_in p f.proc) f.at call (step_of_proc p q is f.proc f.at call c.call) refl)

  -- the step after a caller's call stays
  after_call : (f : Frame) → IsCaller p f → is_dropped (steps_in p f.proc) (f.at + 1) ≡ false
  after_call f c =
      next_stays (steps_in p f.proc) f.at
      (no_triangle (steps_in p f.proc) f.at (Invoke c.d c.callee c.args) (step_of_proc p q is f.proc f.at (Invoke c.d c.callee c.args) c.call) refl)

  value_moved : (s : State) (f : Frame) (fs : List Frame) (v n : ℕ) (d : Option ℕ) (callee : ℕ) (args : List Src) → Stays p f
      → take_value (moved p s n) (moved_frame p f) (map (moved_frame p) fs) v (Some (Invoke d callee args)) ≡ moved p (take_value s f fs v (Some (Invoke d callee args))) n
  value_moved s f fs v n (Some d) callee args stays = assigns_moved s f fs d v n stays
  value_moved s f fs v n None callee args stays = goes_moved s f fs n stays

  returns_moved : (s : State) (fs : List Frame) (v n : ℕ) → AreCallers p fs
      → returns q (moved p s n) (map (moved_frame p) fs) v ≡ moved p (returns p s fs v) n
  returns_moved s [] v n callers = refl
  returns_moved s (f ∷ fs) v n callers =
      let c = callers.0 in
      ap (take_value (moved p s n) (moved_frame p f) (map (moved_frame p) fs) v) (call_there f c)
      ∙ value_moved s f fs v n c.d c.callee c.args c.stays
      ∙ ap (λ o. moved p (take_value s f fs v o) n) (sym c.call)

  value_stands : (s : State) (f : Frame) (fs : List Frame) (v : ℕ) (d : Option ℕ) (callee : ℕ) (args : List Src) → is_dropped (steps_in p f.proc) (f.at + 1) ≡ false → AreCallers p fs
      → Stands p (take_value s f fs v (Some (Invoke d callee args))).stack
  value_stands s f fs v (Some d) callee args stays callers = (stays, callers)
  value_stands s f fs v None callee args stays callers = (stays, callers)

  returns_stand : (s : State) (fs : List Frame) (v : ℕ) → AreCallers p fs → Stands p (returns p s fs v).stack
  returns_stand s [] v callers = tt
  returns_stand s (f ∷ fs) v callers =
      let c = callers.0 in
      subst (λ o. Stands p (take_value s f fs v o).stack) (sym c.call) (value_stands s f fs v c.d c.callee c.args (after_call f c) callers.1)

  pub enter_moved : (callee : ℕ) (args : List ℕ) → enter q callee args ≡ moved_frame p (enter p callee args)
  enter_moved callee args = ap (λ count. record { proc = callee; at = 0; vars = args ++ replicate (count - length args) 0 }) (vars_there p q is callee)

  -- ---- a step with which no triangle begins

  -- what such a step does in the converted program
  pub carry_moved : (s : State) (f : Frame) (fs : List Frame) (step : Step) (n : ℕ) → Stays p f → AreCallers p fs
      → carry_out u q (moved p s n) (moved_frame p f) (map (moved_frame p) fs) (renumbered (place (steps_in p f.proc)) step) ≡ moved p (carry_out u p s f fs step) n
  carry_moved s f fs (Copy d v) n stays callers = assigns_moved s f fs d (operand f.vars v) n stays
  carry_moved s f fs (Apply d op a b) n stays callers = assigns_moved s f fs d (u.value op.0 (operand f.vars a) (operand f.vars b)) n stays
  carry_moved s f fs (Load d a) n stays callers = assigns_moved s f fs d (slice_index s.memory (operand f.vars a)) n stays
  carry_moved s f fs (Store a v) n stays callers = goes_moved (record s { memory = slice_set s.memory (operand f.vars a) (operand f.vars v) }) f fs n stays
  carry_moved s f fs (Put v) n stays callers = goes_moved (record s { output = s.output ++ operand f.vars v ∷ [] }) f fs n stays
  carry_moved s f fs (Take d) n stays callers = assigns_moved (record s { rest = drop 1 s.rest }) f fs d (slice_index s.rest 0) n stays
  carry_moved s f fs (If rel a b to) n stays callers = by (holds u rel (operand f.vars a) (operand f.vars b)) where
    by : (taken : Bool) → goes_to (moved p s n) (moved_frame p f) (map (moved_frame p) fs) (if taken then place (steps_in p f.proc) to else place (steps_in p f.proc) f.at + 1)
        ≡ moved p (goes_to s f fs (if taken then to else f.at + 1)) n
    by true = refl
    by false = goes_moved s f fs n stays
  carry_moved s f fs (Goto to) n stays callers = refl
  carry_moved s f fs (When rel a b d v) n stays callers = by (holds u rel (operand f.vars a) (operand f.vars b)) where
    by : (taken : Bool) → (if taken then assigns (moved p s n) (moved_frame p f) (map (moved_frame p) fs) d (operand f.vars v) else goes_to (moved p s n) (moved_frame p f) (map (moved_frame p) fs) (place (steps_in p f.proc) f.at + 1))
        ≡ moved p (if taken then assigns s f fs d (operand f.vars v) else goes_to s f fs (f.at + 1)) n
    by true = assigns_moved s f fs d (operand f.vars v) n stays
    by false = goes_moved s f fs n stays
  carry_moved s f fs (Invoke d callee args) n stays callers =
      ap (λ g. record { stack = g ∷ moved_frame p f ∷ map (moved_frame p) fs; memory = s.memory; rest = s.rest; output = s.output; steps = n; outcome = s.outcome })
      (enter_moved callee (map (operand f.vars) args))
  carry_moved s f fs (Return (Some v)) n stays callers = returns_moved s fs (operand f.vars v) n callers
  carry_moved s f fs (Return None) n stays callers = returns_moved s fs 0 n callers
  carry_moved s f fs Halt n stays callers = refl
  carry_moved s f fs End n stays callers = returns_moved s fs 0 n callers

  -- and where the calls stand then
  pub carry_stands : (s : State) (f : Frame) (fs : List Frame) (step : Step) → s.stack ≡ f ∷ fs → Stays p f → step_at p f.proc f.at ≡ Some step → is_triangle (steps_in p f.proc) f.at ≡ false → AreCallers p fs
      → Stands p (carry_out u p s f fs step).stack
  carry_stands s f fs step is_stack stays there other callers = by step there where
    next : is_dropped (steps_in p f.proc) (f.at + 1) ≡ false
    next = next_stays (steps_in p f.proc) f.at other

    named : (step : Step) → step_at p f.proc f.at ≡ Some step → (to : ℕ) → names to step ≡ true → is_dropped (steps_in p f.proc) to ≡ false
    named step there to name = target_stays (steps_in p f.proc) to (any_from_one (names to) (steps_in p f.proc) f.at step (step_of_proc p q is f.proc f.at step there) name)

    by : (step : Step) → step_at p f.proc f.at ≡ Some step → Stands p (carry_out u p s f fs step).stack
    by (Copy d v) there = (next, callers)
    by (Apply d op a b) there = (next, callers)
    by (Load d a) there = (next, callers)
    by (Store a v) there = (next, callers)
    by (Put v) there = (next, callers)
    by (Take d) there = (next, callers)
    by (If rel a b to) there = branch (holds u rel (operand f.vars a) (operand f.vars b)) where
      branch : (taken : Bool) → Stands p (goes_to s f fs (if taken then to else f.at + 1)).stack
      branch true = (named (If rel a b to) there to (eq-eqb to to refl), callers)
      branch false = (next, callers)
    by (Goto to) there = (named (Goto to) there to (eq-eqb to to refl), callers)
    by (When rel a b d v) there = copy (holds u rel (operand f.vars a) (operand f.vars b)) where
      copy : (taken : Bool) → Stands p (if taken then assigns s f fs d (operand f.vars v) else goes_to s f fs (f.at + 1)).stack
      copy true = (next, callers)
      copy false = (next, callers)
    by (Invoke d callee args) there = (refl, (record { stays = stays; d = d; callee = callee; args = args; call = there }, callers))
    by (Return (Some v)) there = returns_stand s fs (operand f.vars v) callers
    by (Return None) there = returns_stand s fs 0 callers
    by Halt there = subst (λ x. Stands p x) (sym is_stack) (stays, callers)
    by End there = returns_stand s fs 0 callers

  pub takes_renumbered : (number : ℕ → ℕ) (step : Step) → takes (renumbered number step) ≡ takes step
  takes_renumbered number (If rel a b to) = refl
  takes_renumbered number (Goto to) = refl
  takes_renumbered number step = refl
