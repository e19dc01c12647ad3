-- A step of a converted program is one step of the program, or two.
use Rattle.std.proofs.Common.{◌≡◌, ◌≤◌, ◌+◌, ℕ, Bool, List, [], ◌∷◌, Option, Some, None, true, false, refl, sym, ap, ◌∙◌, subst, arith, lit≤, map}
use Rattle.std.specs.Prelude.{if◌then◌else◌, not, slice_get, slice_set, is_none, ◌&&◌, codes}
use Rattle.std.specs.Option.{option_map_or}
use Rattle.tta_ifconv.specs.Cited.{iterate, Units, Rel, Eq, Ne, Lt, Ge, Ltu, Geu, Step, Copy, If, When, Program, State, Frame, Outcome, Running, Halted, Waiting, step_at, holds, is_odd, operand, next, next_of, go_on, carry_out, goes_through, waits, assigns, goes_to}
use Rattle.tta_ifconv.specs.Triangles.{opposite, is_triangle, place, joined, renumbered}
use Rattle.tta_ifconv.specs.Converted.{Converted}
use Rattle.tta_ifconv.proofs.Places.{Triangle, triangle_of, after_triangle, place_after}
use Rattle.tta_ifconv.proofs.Pairs.{steps_in, step_there, step_missing, step_from_proc}
use Rattle.tta_ifconv.proofs.Moved.{moved_frame, moved, Stays, AreCallers, Stands, takes_renumbered, carry_moved, carry_stands}

not_not : (x : Bool) → x ≡ not (not x)
not_not true = refl
not_not false = refl

-- the opposite relation holds exactly where the relation does not
pub opposite_holds : (u : Units) (rel : Rel) (a b : ℕ) → holds u (opposite rel) a b ≡ not (holds u rel a b)
opposite_holds u Eq a b = refl
opposite_holds u Ne a b = not_not (is_odd u (codes "eq") a b)
opposite_holds u Lt a b = refl
opposite_holds u Ge a b = not_not (is_odd u (codes "lt") a b)
opposite_holds u Ltu a b = refl
opposite_holds u Geu a b = not_not (is_odd u (codes "ltu") a b)

module _ (u : Units) (p q : Program) (is : Converted p q) where
  -- the converted program's next step is one step of the program, or two
  pub record Follows (s : State) (n : ℕ) : Type 0 where
    pub by : ℕ
    pub least : 1 ≤ by
    pub most : by ≤ 2
    pub steps : ℕ
    pub same : next u q (moved p s n) ≡ moved p (iterate by (next u p) s) steps
    pub stands : Stands p (iterate by (next u p) s).stack

  -- one step of each
  one_step : (s : State) (n steps : ℕ) → next u q (moved p s n) ≡ moved p (next u p s) steps → Stands p (next u p s).stack → Follows s n
  one_step s n steps same stands = record { by = 1; least = lit≤ tt; most = lit≤ tt; steps = steps; same = same; stands = stands }

  -- the step of a state that runs
  pub next_through : (p : Program) (s : State) (f : Frame) (fs : List Frame) (step : Step) → s.outcome ≡ Running → s.stack ≡ f ∷ fs → step_at p f.proc f.at ≡ Some step
      → next u p s ≡ goes_through u p s f fs step
  unfolding next
  next_through p s f fs step running stack there =
      ap (next_of u p s) running ∙ ap (go_on u p s) stack ∙ ap (λ o. option_map_or (goes_through u p s f fs) o s) there

  pub next_nowhere : (p : Program) (s : State) (f : Frame) (fs : List Frame) → s.outcome ≡ Running → s.stack ≡ f ∷ fs → step_at p f.proc f.at ≡ None → next u p s ≡ s
  unfolding next
  next_nowhere p s f fs running stack there =
      ap (next_of u p s) running ∙ ap (go_on u p s) stack ∙ ap (λ o. option_map_or (goes_through u p s f fs) o s) there

  -- ---- a step with which no triangle begins

  -- such a step of both programs
  plain_follows : (s : State) (n : ℕ) (f : Frame) (fs : List Frame) (step : Step) → s.outcome ≡ Running → s.stack ≡ f ∷ fs → Stays p f → AreCallers p fs
      → step_at p f.proc f.at ≡ Some step → is_triangle (steps_in p f.proc) f.at ≡ false → Follows s n
  plain_follows s n f fs step running stack stays callers there other =
      one_step s n (if waits s step then n else n + 1)
      (next_through q (moved p s n) (moved_frame p f) (map (moved_frame p) fs) _ running (ap (map (moved_frame p)) stack) step_then
      ∙ through (waits s step) refl ∙ ap (λ t. moved p t (if waits s step then n else n + 1)) (sym (next_through p s f fs step running stack there)))
      (subst (λ t. Stands p t.stack) (sym (next_through p s f fs step running stack there)) (stands (waits s step)))
    where
      steps : List Step
      steps = steps_in p f.proc

      step_then : step_at q f.proc (place (steps_in p f.proc) f.at) ≡ Some (renumbered (place (steps_in p f.proc)) step)
      step_then =
          step_there p q is f.proc f.at step there stays
          ∙ ap (λ b. Some (if b then joined step (slice_get (steps_in p f.proc) (f.at + 1)) else renumbered (place (steps_in p f.proc)) step)) other

      waits_same : waits (moved p s n) (renumbered (place (steps_in p f.proc)) step) ≡ waits s step
      waits_same = ap (λ b. b && is_none (slice_get s.rest 0)) (takes_renumbered u p q is (place (steps_in p f.proc)) step)

      through : (b : Bool) → waits s step ≡ b
          → goes_through u q (moved p s n) (moved_frame p f) (map (moved_frame p) fs) (renumbered (place (steps_in p f.proc)) step)
          ≡ moved p (goes_through u p s f fs step) (if waits s step then n else n + 1)
      through b e =
          ap (λ w. if w then record (moved p s n) { outcome = Waiting } else carry_out u q (record (moved p s n) { steps = n + 1 }) (moved_frame p f) (map (moved_frame p) fs) (renumbered (place (steps_in p f.proc)) step)) waits_same
          ∙ both (waits s step)
        where
          both : (w : Bool) → (if w then record (moved p s n) { outcome = Waiting } else carry_out u q (record (moved p s n) { steps = n + 1 }) (moved_frame p f) (map (moved_frame p) fs) (renumbered (place (steps_in p f.proc)) step))
              ≡ moved p (if w then record s { outcome = Waiting } else carry_out u p (record s { steps = s.steps + 1 }) f fs step) (if w then n else n + 1)
          both true = refl
          both false = carry_moved u p q is (record s { steps = s.steps + 1 }) f fs step (n + 1) stays callers

      stands : (w : Bool) → Stands p (if w then record s { outcome = Waiting } else carry_out u p (record s { steps = s.steps + 1 }) f fs step).stack
      stands true = subst (λ x. Stands p x) (sym stack) (stays, callers)
      stands false = carry_stands u p q is (record s { steps = s.steps + 1 }) f fs step stack stays there other callers

  -- ---- a triangle

  -- the state of the program after the branch of a triangle that is not taken, and its copy
  abbrev copied : (s : State) (f : Frame) (fs : List Frame) (at d v : ℕ) → State
  copied s f fs at d v = record { stack = record { proc = f.proc; at = at; vars = slice_set f.vars d v } ∷ fs; memory = s.memory; rest = s.rest; output = s.output; steps = (s.steps + 1) + 1; outcome = s.outcome }

  triangle_follows : (s : State) (n : ℕ) (f : Frame) (fs : List Frame) → s.outcome ≡ Running → s.stack ≡ f ∷ fs → Stays p f → AreCallers p fs
      → Triangle (steps_in p f.proc) f.at → is_triangle (steps_in p f.proc) f.at ≡ true → Follows s n
  triangle_follows s n f fs running stack stays callers t begins = by (holds u t.rel (operand f.vars t.a) (operand f.vars t.b)) refl where
    branch : step_at p f.proc f.at ≡ Some (If t.rel t.a t.b (f.at + 2))
    branch = step_from_proc p q is f.proc f.at (If t.rel t.a t.b (f.at + 2)) t.branch

    step_then : step_at q f.proc (place (steps_in p f.proc) f.at) ≡ Some (When (opposite t.rel) t.a t.b t.d t.s)
    step_then =
        step_there p q is f.proc f.at (If t.rel t.a t.b (f.at + 2)) branch stays
        ∙ ap (λ b. Some (if b then joined (If t.rel t.a t.b (f.at + 2)) (slice_get (steps_in p f.proc) (f.at + 1)) else renumbered (place (steps_in p f.proc)) (If t.rel t.a t.b (f.at + 2)))) begins
        ∙ ap (λ o. Some (joined (If t.rel t.a t.b (f.at + 2)) o)) t.copy

    -- what the converted program does
    there : (taken : Bool) → holds u t.rel (operand f.vars t.a) (operand f.vars t.b) ≡ taken
        → next u q (moved p s n)
        ≡ (if not taken then assigns (record (moved p s n) { steps = n + 1 }) (moved_frame p f) (map (moved_frame p) fs) t.d (operand f.vars t.s)
        else goes_to (record (moved p s n) { steps = n + 1 }) (moved_frame p f) (map (moved_frame p) fs) (place (steps_in p f.proc) f.at + 1))
    there taken e =
        next_through q (moved p s n) (moved_frame p f) (map (moved_frame p) fs) _ running (ap (map (moved_frame p)) stack) step_then
        ∙ ap (λ b. if b then assigns (record (moved p s n) { steps = n + 1 }) (moved_frame p f) (map (moved_frame p) fs) t.d (operand f.vars t.s)
        else goes_to (record (moved p s n) { steps = n + 1 }) (moved_frame p f) (map (moved_frame p) fs) (place (steps_in p f.proc) f.at + 1))
        (opposite_holds u t.rel (operand f.vars t.a) (operand f.vars t.b) ∙ ap not e)

    -- and what the program does first
    here : (taken : Bool) → holds u t.rel (operand f.vars t.a) (operand f.vars t.b) ≡ taken
        → next u p s ≡ goes_to (record s { steps = s.steps + 1 }) f fs (if taken then f.at + 2 else f.at + 1)
    here taken e =
        next_through p s f fs _ running stack branch
        ∙ ap (λ b. goes_to (record s { steps = s.steps + 1 }) f fs (if b then f.at + 2 else f.at + 1)) e

    after : place (steps_in p f.proc) (f.at + 2) ≡ place (steps_in p f.proc) f.at + 1
    after = place_after (steps_in p f.proc) f.at begins

    by : (taken : Bool) → holds u t.rel (operand f.vars t.a) (operand f.vars t.b) ≡ taken → Follows s n
    by true e =
        one_step s n (n + 1)
        (there true e
        ∙ ap (λ at. record { stack = record { proc = f.proc; at = at; vars = f.vars } ∷ map (moved_frame p) fs; memory = s.memory; rest = s.rest; output = s.output; steps = n + 1; outcome = s.outcome }) (sym after)
        ∙ ap (λ x. moved p x (n + 1)) (sym (here true e)))
        (subst (λ x. Stands p x.stack) (sym (here true e)) (after_triangle (steps_in p f.proc) f.at begins, callers))
    by false e =
        let between = goes_to (record s { steps = s.steps + 1 }) f fs (f.at + 1) in
        let copy = step_from_proc p q is f.proc (f.at + 1) (Copy t.d t.s) t.copy in
        let two : (f.at + 1) + 1 ≡ f.at + 2 = omega arith in
        let second : next u p between ≡ copied s f fs (f.at + 2) t.d (operand f.vars t.s)
        = next_through p between (record f { at = f.at + 1 }) fs _ running refl copy ∙ ap (λ at. copied s f fs at t.d (operand f.vars t.s)) two in
        let both : next u p (next u p s) ≡ copied s f fs (f.at + 2) t.d (operand f.vars t.s) = ap (next u p) (here false e) ∙ second in
        record {
          by = 2;
          least = lit≤ tt;
          most = lit≤ tt;
          steps = n + 1;
          same = there false e
              ∙ ap (λ at. record { stack = record { proc = f.proc; at = at; vars = slice_set f.vars t.d (operand f.vars t.s) } ∷ map (moved_frame p) fs; memory = s.memory; rest = s.rest; output = s.output; steps = n + 1; outcome = s.outcome }) (sym after)
              ∙ ap (λ x. moved p x (n + 1)) (sym both);
          stands = subst (λ x. Stands p x.stack) (sym both) (after_triangle (steps_in p f.proc) f.at begins, callers);
        }

  -- ---- any state

  next_ended : (p : Program) (s : State) → s.outcome ≡ Halted → next u p s ≡ s
  unfolding next
  next_ended p s e = ap (next_of u p s) e

  next_waits : (p : Program) (s : State) → s.outcome ≡ Waiting → next u p s ≡ s
  unfolding next
  next_waits p s e = ap (next_of u p s) e

  next_empty : (p : Program) (s : State) → s.outcome ≡ Running → s.stack ≡ [] → next u p s ≡ s
  unfolding next
  next_empty p s e stack = ap (next_of u p s) e ∙ ap (go_on u p s) stack

  -- where neither program goes on
  still : (s : State) (n : ℕ) → next u q (moved p s n) ≡ moved p s n → next u p s ≡ s → Stands p s.stack → Follows s n
  still s n there here stands = one_step s n n (there ∙ ap (λ x. moved p x n) (sym here)) (subst (λ x. Stands p x.stack) (sym here) stands)

  pub follows : (s : State) (n : ℕ) → Stands p s.stack → Follows s n
  follows s n stands = by s.outcome refl s.stack refl where
    going : (f : Frame) (fs : List Frame) → s.outcome ≡ Running → s.stack ≡ f ∷ fs → Stands p (f ∷ fs) → (o : Option Step) → step_at p f.proc f.at ≡ o → Follows s n
    going f fs running stack at None none =
        still s n (next_nowhere q (moved p s n) (moved_frame p f) (map (moved_frame p) fs) running (ap (map (moved_frame p)) stack) (step_missing p q is f.proc f.at none)) (next_nowhere p s f fs running stack none) stands
    going f fs running stack at (Some step) there = step_is (is_triangle (steps_in p f.proc) f.at) refl where
      step_is : (b : Bool) → is_triangle (steps_in p f.proc) f.at ≡ b → Follows s n
      step_is true begins = triangle_follows s n f fs running stack at.0 at.1 (triangle_of (steps_in p f.proc) f.at begins) begins
      step_is false other = plain_follows s n f fs step running stack at.0 at.1 there other

    by : (o : Outcome) → s.outcome ≡ o → (stack : List Frame) → s.stack ≡ stack → Follows s n
    by Halted ended stack e = still s n (next_ended q (moved p s n) ended) (next_ended p s ended) stands
    by Waiting ended stack e = still s n (next_waits q (moved p s n) ended) (next_waits p s ended) stands
    by Running running [] e = still s n (next_empty q (moved p s n) running (ap (map (moved_frame p)) e)) (next_empty p s running e) stands
    by Running running (f ∷ fs) e = going f fs running e (subst (λ x. Stands p x) e stands) (step_at p f.proc f.at) refl
