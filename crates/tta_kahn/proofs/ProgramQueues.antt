-- The steps of programs use their queues as such.
use Rattle.std.proofs.Common.{◌≡◌, ℕ, ◌+◌, Bool, true, false, List, [], ◌∷◌, ◌++◌, drop, Option, Some, None, refl, sym, ap, ◌∙◌}
use Rattle.std.specs.Prelude.{if◌then◌else◌, slice_get, slice_index, is_none, ◌&&◌}
use Rattle.std.specs.Option.{option_map_or}
use Rattle.tta_list.proofs.Prefixes.{prefix_same}
use Rattle.tta_kahn.specs.Cited.{IsPrefixOf, Units, Step, Copy, Apply, Load, Store, Put, If, Goto, When, Invoke, Return, Halt, End, Program, Frame, step_at, holds, operand, go_on, goes_through, take_value, assigns, goes_to}
use Rattle.tta_program.specs.declared.step.Step.TheVariants.{Take}
use Rattle.tta_program.specs.Sequential.{State, Outcome, Running, Halted, Waiting, next, next_of, carry_out, takes, waits, returns}
use Rattle.tta_program.proofs.Growing.{carry_grows}
use Rattle.tta_kahn.specs.Queues.{UsesQueues}
use Rattle.tta_kahn.specs.Programs.{is_waiting, step_of, steps_of}

-- a list that has a word has it first, also where more follow
pub first_more : (rest words : List ℕ) → is_none (slice_get rest 0) ≡ false → is_none (slice_get (rest ++ words) 0) ≡ false
first_more [] words some = cc
first_more (x ∷ rest) words some = refl

pub drop_more : (rest words : List ℕ) → is_none (slice_get rest 0) ≡ false → drop 1 (rest ++ words) ≡ drop 1 rest ++ words
drop_more [] words some = cc
drop_more (x ∷ rest) words some = refl

pub index_more : (rest words : List ℕ) → is_none (slice_get rest 0) ≡ false → slice_index (rest ++ words) 0 ≡ slice_index rest 0
index_more [] words some = cc
index_more (x ∷ rest) words some = refl

-- a word was taken from the first of a list on
pub one_off : (rest : List ℕ) → (taken : List ℕ) × (rest ≡ taken ++ drop 1 rest)
one_off [] = ([], refl)
one_off (x ∷ rest) = (x ∷ [], refl)

module _ (u : Units) (p : Program) where
  -- ---- input

  value_rest : (s : State) (g : Frame) (callers : List Frame) (v : ℕ) (step : Option Step) → (take_value s g callers v step).rest ≡ s.rest
  value_rest s g callers v (Some (Invoke (Some d) callee args)) = refl
  value_rest s g callers v (Some (Invoke None callee args)) = refl
  value_rest s g callers v step = refl

  returns_rest : (s : State) (callers : List Frame) (v : ℕ) → (returns p s callers v).rest ≡ s.rest
  returns_rest s [] v = refl
  returns_rest s (g ∷ callers) v = value_rest s g callers v (step_at p g.proc g.at)

  when_rest : (s : State) (f : Frame) (callers : List Frame) (d v : ℕ) (b : Bool) → (if b then assigns s f callers d v else goes_to s f callers (f.at + 1)).rest ≡ s.rest
  when_rest s f callers d v true = refl
  when_rest s f callers d v false = refl

  none_off : (rest after : List ℕ) → after ≡ rest → (taken : List ℕ) × (rest ≡ taken ++ after)
  none_off rest after e = ([], sym e)

  carry_takes : (s : State) (f : Frame) (callers : List Frame) (step : Step) → (taken : List ℕ) × (s.rest ≡ taken ++ (carry_out u p s f callers step).rest)
  carry_takes s f callers (Copy d v) = none_off _ _ refl
  carry_takes s f callers (Apply d op a b) = none_off _ _ refl
  carry_takes s f callers (Load d a) = none_off _ _ refl
  carry_takes s f callers (Take d) = one_off s.rest
  carry_takes s f callers (Store a v) = none_off _ _ refl
  carry_takes s f callers (Put v) = none_off _ _ refl
  carry_takes s f callers (If rel a b to) = none_off _ _ refl
  carry_takes s f callers (Goto to) = none_off _ _ refl
  carry_takes s f callers (When rel a b d v) = none_off _ _ (when_rest s f callers d (operand f.vars v) (holds u rel (operand f.vars a) (operand f.vars b)))
  carry_takes s f callers (Invoke d callee args) = none_off _ _ refl
  carry_takes s f callers (Return (Some v)) = none_off _ _ (returns_rest s callers (operand f.vars v))
  carry_takes s f callers (Return None) = none_off _ _ (returns_rest s callers 0)
  carry_takes s f callers Halt = none_off _ _ refl
  carry_takes s f callers End = none_off _ _ (returns_rest s callers 0)

  -- ---- more input

  -- a state with more input
  abbrev more : List ℕ → State → State
  more words s = record s { rest = s.rest ++ words }

  value_more : (words : List ℕ) (s : State) (g : Frame) (callers : List Frame) (v : ℕ) (step : Option Step) → take_value (more words s) g callers v step ≡ more words (take_value s g callers v step)
  value_more words s g callers v (Some (Invoke (Some d) callee args)) = refl
  value_more words s g callers v (Some (Invoke None callee args)) = refl
  value_more words s g callers v step = refl

  returns_more : (words : List ℕ) (s : State) (callers : List Frame) (v : ℕ) → returns p (more words s) callers v ≡ more words (returns p s callers v)
  returns_more words s [] v = refl
  returns_more words s (g ∷ callers) v = value_more words s g callers v (step_at p g.proc g.at)

  when_more : (words : List ℕ) (s : State) (f : Frame) (callers : List Frame) (d v : ℕ) (b : Bool)
      → (if b then assigns (more words s) f callers d v else goes_to (more words s) f callers (f.at + 1)) ≡ more words (if b then assigns s f callers d v else goes_to s f callers (f.at + 1))
  when_more words s f callers d v true = refl
  when_more words s f callers d v false = refl

  carry_more : (words : List ℕ) (s : State) (f : Frame) (callers : List Frame) (step : Step) → waits s step ≡ false
      → carry_out u p (more words s) f callers step ≡ more words (carry_out u p s f callers step)
  carry_more words s f callers (Copy d v) goes = refl
  carry_more words s f callers (Apply d op a b) goes = refl
  carry_more words s f callers (Load d a) goes = refl
  carry_more words s f callers (Take d) goes =
      ap (λ (r : List ℕ). assigns (record s { rest = r }) f callers d (slice_index (s.rest ++ words) 0)) (drop_more s.rest words goes)
      ∙ ap (assigns (record s { rest = drop 1 s.rest ++ words }) f callers d) (index_more s.rest words goes)
  carry_more words s f callers (Store a v) goes = refl
  carry_more words s f callers (Put v) goes = refl
  carry_more words s f callers (If rel a b to) goes = refl
  carry_more words s f callers (Goto to) goes = refl
  carry_more words s f callers (When rel a b d v) goes = when_more words s f callers d (operand f.vars v) (holds u rel (operand f.vars a) (operand f.vars b))
  carry_more words s f callers (Invoke d callee args) goes = refl
  carry_more words s f callers (Return (Some v)) goes = returns_more words s callers (operand f.vars v)
  carry_more words s f callers (Return None) goes = returns_more words s callers 0
  carry_more words s f callers Halt goes = refl
  carry_more words s f callers End goes = returns_more words s callers 0

  waits_more : (words : List ℕ) (s : State) (step : Step) → waits s step ≡ false → waits (more words s) step ≡ false
  waits_more words s step goes = by (takes step) goes where
    by : (b : Bool) → (b && is_none (slice_get s.rest 0)) ≡ false → (b && is_none (slice_get (s.rest ++ words) 0)) ≡ false
    by false e = refl
    by true e = first_more s.rest words e

  -- ---- waiting

  value_goes : (s : State) (g : Frame) (callers : List Frame) (v : ℕ) (step : Option Step) → (take_value s g callers v step).outcome ≡ s.outcome
  value_goes s g callers v (Some (Invoke (Some d) callee args)) = refl
  value_goes s g callers v (Some (Invoke None callee args)) = refl
  value_goes s g callers v step = refl

  returns_goes : (s : State) (callers : List Frame) (v : ℕ) → is_waiting s.outcome ≡ false → is_waiting (returns p s callers v).outcome ≡ false
  returns_goes s [] v e = refl
  returns_goes s (g ∷ callers) v e = ap is_waiting (value_goes s g callers v (step_at p g.proc g.at)) ∙ e

  when_goes : (s : State) (f : Frame) (callers : List Frame) (d v : ℕ) (b : Bool) → (if b then assigns s f callers d v else goes_to s f callers (f.at + 1)).outcome ≡ s.outcome
  when_goes s f callers d v true = refl
  when_goes s f callers d v false = refl

  carry_goes : (s : State) (f : Frame) (callers : List Frame) (step : Step) → is_waiting s.outcome ≡ false → is_waiting (carry_out u p s f callers step).outcome ≡ false
  carry_goes s f callers (Copy d v) e = e
  carry_goes s f callers (Apply d op a b) e = e
  carry_goes s f callers (Load d a) e = e
  carry_goes s f callers (Take d) e = e
  carry_goes s f callers (Store a v) e = e
  carry_goes s f callers (Put v) e = e
  carry_goes s f callers (If rel a b to) e = e
  carry_goes s f callers (Goto to) e = e
  carry_goes s f callers (When rel a b d v) e = ap is_waiting (when_goes s f callers d (operand f.vars v) (holds u rel (operand f.vars a) (operand f.vars b))) ∙ e
  carry_goes s f callers (Invoke d callee args) e = e
  carry_goes s f callers (Return (Some v)) e = returns_goes s callers (operand f.vars v) e
  carry_goes s f callers (Return None) e = returns_goes s callers 0 e
  carry_goes s f callers Halt e = refl
  carry_goes s f callers End e = returns_goes s callers 0 e

-- ---- one step

-- What a step from a state to the next does with its queues; with more input it comes to another.
pub record StepsSo (s next : State) (others : List ℕ → State) : Type 0 where
  pub grows : IsPrefixOf s.output next.output
  pub takes : (taken : List ℕ) × (s.rest ≡ taken ++ next.rest)
  pub more : (words : List ℕ) → is_waiting next.outcome ≡ false → others words ≡ record next { rest = next.rest ++ words }
  pub still : is_waiting next.outcome ≡ true → next.output ≡ s.output

-- nothing is done
stays_so : (s : State) → StepsSo s s (λ words. record s { rest = s.rest ++ words })
stays_so s = record { grows = prefix_same _ _ refl; takes = ([], refl); more = λ words goes. refl; still = λ waits. refl }

-- a step that waits
waits_so : (s : State) (others : List ℕ → State) → StepsSo s (record s { outcome = Waiting }) others
waits_so s others = record { grows = prefix_same _ _ refl; takes = ([], refl); more = λ words goes. absurd (let odd : true ≡ false = goes in cc); still = λ waits. refl }

module _ (u : Units) (p : Program) where
  through_so : (s : State) (f : Frame) (callers : List Frame) (step : Step) → is_waiting s.outcome ≡ false
      → StepsSo s (goes_through u p s f callers step) (λ words. goes_through u p (record s { rest = s.rest ++ words }) f callers step)
  through_so s f callers step running = by (waits s step) refl where
    one : State
    one = record s { steps = s.steps + 1 }

    others : List ℕ → State
    others words = goes_through u p (record s { rest = s.rest ++ words }) f callers step

    by : (b : Bool) → waits s step ≡ b → StepsSo s (if b then record s { outcome = Waiting } else carry_out u p one f callers step) others
    by true e = waits_so s others
    by false e =
        let goes = carry_goes u p one f callers step running in
        record {
          grows = carry_grows u p one f callers step;
          takes = carry_takes u p one f callers step;
          more = λ words _.
              ap (λ (b : Bool). if b then record s { rest = s.rest ++ words; outcome = Waiting } else carry_out u p (record one { rest = s.rest ++ words }) f callers step)
              (waits_more u p words s step e)
              ∙ carry_more u p words one f callers step e;
          still = λ waits. absurd (let odd : true ≡ false = sym waits ∙ goes in cc);
        }

  go_so : (s : State) (stack : List Frame) → is_waiting s.outcome ≡ false → StepsSo s (go_on u p s stack) (λ words. go_on u p (record s { rest = s.rest ++ words }) stack)
  go_so s [] running = stays_so s
  go_so s (f ∷ callers) running = by (step_at p f.proc f.at) where
    by : (o : Option Step) → StepsSo s (option_map_or (goes_through u p s f callers) o s)
        (λ words. option_map_or (goes_through u p (record s { rest = s.rest ++ words }) f callers) o (record s { rest = s.rest ++ words }))
    by None = stays_so s
    by (Some step) = through_so s f callers step running

  pub next_so : (s : State) → StepsSo s (next u p s) (λ words. next u p (record s { rest = s.rest ++ words }))
  unfolding next
  next_so s = by s.outcome refl where
    by : (o : Outcome) → s.outcome ≡ o → StepsSo s (next_of u p s o) (λ words. next_of u p (record s { rest = s.rest ++ words }) o)
    by Running e = go_so s s.stack (ap is_waiting e)
    by Halted e = stays_so s
    by Waiting e = stays_so s

  -- one that waits stays
  pub next_stays : (s : State) → is_waiting s.outcome ≡ true → next u p s ≡ s
  unfolding next
  next_stays s waits = by s.outcome waits where
    by : (o : Outcome) → is_waiting o ≡ true → next_of u p s o ≡ s
    by Running e = absurd (let odd : false ≡ true = e in cc)
    by Halted e = refl
    by Waiting e = refl

module _ (u : Units) (programs : List Program) where
  step_so : (core : ℕ) (s : State) → StepsSo s (step_of u programs core s) (λ words. step_of u programs core (record s { rest = s.rest ++ words }))
  step_so core s = by (slice_get programs core) where
    by : (o : Option Program) → StepsSo s (option_map_or (λ p. next u p s) o s)
        (λ words. option_map_or (λ p. next u p (record s { rest = s.rest ++ words })) o (record s { rest = s.rest ++ words }))
    by None = stays_so s
    by (Some p) = next_so u p s

  step_stays : (core : ℕ) (s : State) → is_waiting s.outcome ≡ true → step_of u programs core s ≡ s
  step_stays core s waits = by (slice_get programs core) where
    by : (o : Option Program) → option_map_or (λ p. next u p s) o s ≡ s
    by None = refl
    by (Some p) = next_stays u p s waits

  pub programs_use : (feeds : List (Option ℕ)) (given : ℕ → List ℕ) → UsesQueues (steps_of u programs feeds given)
  programs_use feeds given = record {
    rest_is = λ s words. refl;
    again = λ s words others. refl;
    itself = λ s. refl;
    output_is = λ s words. refl;
    waits_is = λ s words. refl;
    grows = λ core s. (step_so core s).grows;
    takes = λ core s. (step_so core s).takes;
    more = λ core s words goes. (step_so core s).more words goes;
    stays = step_stays;
    still = λ core s waits. (step_so core s).still waits;
  }
