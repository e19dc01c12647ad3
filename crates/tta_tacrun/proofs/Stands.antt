-- What a step makes of the states that a run stands for.
use Rattle.std.proofs.Common.{◌≡◌, ◌+◌, ℕ, true, false, List, ◌++◌, [], ◌∷◌, Option, Some, None, refl, ap, sym, ◌∙◌}
use Rattle.std.specs.Prelude.{option_to_list, slice_get, slice_index}
use Rattle.std.specs.Option.{unwrap_or}
use Rattle.std.proofs.lemmas.List.{append-nil}
use Rattle.tta_tacrun.specs.Cited.{Units, Step, Program, State, Halted, Waiting, step_at, takes, waits, goes_through, next, left, iterate}
use Rattle.tta_tacrun.specs.declared.answer.SeqStep.TheVariants.{Ran, Halted as DoesNotRun, Waiting as Waits}
use Rattle.tta_tacrun.specs.declared.phase.Phase.{Phase}
use Rattle.tta_tacrun.specs.declared.phase.Phase.TheVariants.{Running as Runs}
use Rattle.tta_tacrun.specs.Calls.{Calls}
use Rattle.tta_tacrun.specs.Run.{Run, SilentProc, Stands, IsAnswer, IsSilentRun, put, run_of, state_of}
use Rattle.tta_tacrun.proofs.Placed.{Carries}

-- a state is what it stands for, its input and its output
state_is : (phase : Phase) (c : Calls) (code : List SilentProc) (memory : List ℕ) (steps : ℕ) (s : State)
    → Stands (run_of phase c code memory steps) s → s ≡ state_of phase c memory s.rest s.output steps
state_is phase c code memory steps s same = rw (same.stack, same.memory, same.steps, same.outcome) refl

put_is : (output : List ℕ) (word : Option ℕ) → put output word ≡ output ++ option_to_list word
put_is output None = sym (append-nil output)
put_is output (Some word) = refl

module _ (u : Units) (p : Program) (c : Calls) (code : List SilentProc) (memory : List ℕ) (steps : ℕ) (step : Step) (here : step_at p c.top.proc c.top.at ≡ Some step)
    (s : State) (same : Stands (run_of Runs c code memory steps) s) where
  -- the step of a run that goes on
  goes : next u p s ≡ goes_through u p (state_of Runs c memory s.rest s.output steps) c.top c.below step
  unfolding next
  goes = ap (next u p) (state_is Runs c code memory steps s same) ∙ rw here refl

  -- a step that has to wait
  pub waits_answer : waits s step ≡ true → IsAnswer u p s Waits
  waits_answer must =
      let kept : record (state_of Runs c memory s.rest s.output steps) { outcome = Waiting } ≡ record s { outcome = Waiting } =
      ap {A = State} (λ t. record t { outcome = Waiting }) (sym (state_is Runs c code memory steps s same)) in
      (sym same.outcome, goes ∙ rw must kept)

  module _ (after : Calls) (new_memory : List ℕ) (phase : Phase) (word : Option ℕ) (next_word : ℕ)
      (carried : Carries u p c after memory new_memory phase word step next_word)
      (goes_on : waits s step ≡ false) (fed : slice_index s.rest 0 ≡ next_word) where
    next_is : next u p s ≡ state_of phase after new_memory (left (takes step) s.rest) (put s.output word) (steps + 1)
    next_is = goes ∙ rw goes_on (sym (carried s.rest s.output (steps + 1) fed))

    pub ran_stands : Stands (run_of phase after code new_memory (steps + 1)) (next u p s)
    ran_stands = rw next_is (record { stack = refl; memory = refl; steps = refl; outcome = refl })

    pub ran_answer : IsAnswer u p s (Ran word (takes step))
    ran_answer = (sym same.outcome, ap (λ t. t.output) next_is ∙ put_is s.output word, ap (λ t. t.rest) next_is)

-- the next word, 0 where none is left
pub next_word : (rest : List ℕ) (next : Option ℕ) → slice_get rest 0 ≡ next → slice_index rest 0 ≡ unwrap_or next 0
next_word [] next fed = ap (λ o. unwrap_or o 0) fed
next_word (x ∷ rest) next fed = ap (λ o. unwrap_or o 0) fed

-- a run that has halted
module _ (u : Units) (p : Program) (r : Run) (over : r.outcome ≡ Halted) (s : State) (same : Stands r s) where
  pub halted_answer : IsAnswer u p s DoesNotRun
  halted_answer = sym same.outcome ∙ over

  pub halted_stands : Stands r (next u p s)
  unfolding next
  halted_stands =
      let ended : s.outcome ≡ Halted = sym same.outcome ∙ over in
      let still : next u p s ≡ s = rw ended refl in
      rw still same

-- steps that stay in one call
module _ (u : Units) (p : Program) (c after : Calls) (code : List SilentProc) (memory new_memory : List ℕ) (steps k : ℕ) where
  pub silent_stands : (s : State) → Stands (run_of Runs c code memory steps) s
      → ((rest output : List ℕ) → iterate k (next u p) (state_of Runs c memory rest output steps)
      ≡ state_of Runs after new_memory rest output (steps + k))
      → IsSilentRun (run_of Runs after code new_memory (steps + k)) s (iterate k (next u p) s)
  silent_stands s same made =
      let comes : iterate k (next u p) s ≡ state_of Runs after new_memory s.rest s.output (steps + k) =
      ap (iterate k (next u p)) (state_is Runs c code memory steps s same) ∙ made s.rest s.output in
      let stands : Stands (run_of Runs after code new_memory (steps + k)) (state_of Runs after new_memory s.rest s.output (steps + k)) =
      record { stack = refl; memory = refl; steps = refl; outcome = refl } in
      let silent : IsSilentRun (run_of Runs after code new_memory (steps + k)) s (state_of Runs after new_memory s.rest s.output (steps + k)) =
      record { stands = stands; output = refl; rest = refl } in
      rw comes silent
