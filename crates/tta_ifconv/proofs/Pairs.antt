-- A program and the converted one, procedure by procedure and step by step.
use Rattle.std.proofs.Common.{◌≡◌, ℕ, zero, suc, List, [], ◌∷◌, Option, Some, None, false, length, refl, sym, ap, ◌∙◌, arith, inl, inr}
use Rattle.std.specs.Prelude.{slice_get, is_some}
use Rattle.std.specs.Option.{option_map_or}
use Rattle.std.proofs.lemmas.Bool.{cases_lt}
use Rattle.std.proofs.lemmas.Option.{slice_get_past}
use Rattle.tta_ifconv.specs.Cited.{AllPairs, Step, Proc, Program, step_at}
use Rattle.tta_ifconv.specs.Triangles.{is_dropped, place, becomes}
use Rattle.tta_ifconv.specs.Converted.{IsConverted, Converted}
use Rattle.tta_list.proofs.Lists.{some_within}
use Rattle.tta_ifconv.proofs.Places.{place_rises}

-- what stands at one place of two lists of procedures
pub data BothAt (old new : List Proc) (k : ℕ) : Type 0 where
  Neither : slice_get old k ≡ None → slice_get new k ≡ None → BothAt old new k
  Both : (a b : Proc) → slice_get old k ≡ Some a → slice_get new k ≡ Some b → IsConverted a b → BothAt old new k

pub both_at : (old new : List Proc) → AllPairs IsConverted old new → (k : ℕ) → BothAt old new k
both_at [] [] all k = Neither refl refl
both_at [] (b ∷ bs) all k = absurd all
both_at (a ∷ xs) [] all k = absurd all
both_at (a ∷ xs) (b ∷ ys) all zero = Both a b refl refl all.0
both_at (a ∷ xs) (b ∷ ys) all (suc k) = by (both_at xs ys all.1 k) where
  by : BothAt xs ys k → BothAt (a ∷ xs) (b ∷ ys) (suc k)
  by (Neither left right) = Neither left right
  by (Both x y left right is) = Both x y left right is

-- the steps of a procedure, none where there is no such procedure
abbrev pub steps_in : Program → ℕ → List Step
steps_in p k = option_map_or (λ q. q.steps) (slice_get p.procs k) []

-- past the steps of a procedure there is none in the converted one
past_end : (a b : Proc) → IsConverted a b → (i : ℕ) → slice_get a.steps i ≡ None → slice_get b.steps (place a.steps i) ≡ None
past_end a b is i none = elim (cases_lt i (length a.steps)) [
  | inl below ↦ absurd (let some = some_within a.steps i below in let no : is_some (slice_get a.steps i) ≡ false = ap is_some none in cc)
  | inr past ↦ let rises = place_rises a.steps (length a.steps) i past in let count = is.count in slice_get_past b.steps (place a.steps i) (omega arith)
]

module _ (p q : Program) (is : Converted p q) where
  -- a step that stays becomes the step at its number
  pub step_there : (k i : ℕ) (step : Step) → step_at p k i ≡ Some step → is_dropped (steps_in p k) i ≡ false
      → step_at q k (place (steps_in p k) i) ≡ Some (becomes (steps_in p k) i step)
  step_there k i step there stays = by (both_at p.procs q.procs is.procs k) where
    by : BothAt p.procs q.procs k → step_at q k (place (steps_in p k) i) ≡ Some (becomes (steps_in p k) i step)
    by (Neither left right) = absurd (let none : step_at p k i ≡ None = ap (λ o. option_map_or (λ x. slice_get x.steps i) o None) left in cc)
    by (Both a b left right pair) =
        let steps : steps_in p k ≡ a.steps = ap (λ o. option_map_or (λ x. x.steps) o []) left in
        let here : slice_get a.steps i ≡ Some step = sym (ap (λ o. option_map_or (λ x. slice_get x.steps i) o None) left) ∙ there in
        let kept : is_dropped a.steps i ≡ false = ap (λ s. is_dropped s i) (sym steps) ∙ stays in
        ap (λ o. option_map_or (λ x. slice_get x.steps (place (steps_in p k) i)) o None) right
        ∙ ap (λ s. slice_get b.steps (place s i)) steps ∙ pair.steps i step here kept ∙ ap (λ s. Some (becomes s i step)) (sym steps)

  -- where there is no step there is none
  pub step_missing : (k i : ℕ) → step_at p k i ≡ None → step_at q k (place (steps_in p k) i) ≡ None
  step_missing k i none = by (both_at p.procs q.procs is.procs k) where
    by : BothAt p.procs q.procs k → step_at q k (place (steps_in p k) i) ≡ None
    by (Neither left right) = ap (λ o. option_map_or (λ x. slice_get x.steps (place (steps_in p k) i)) o None) right
    by (Both a b left right pair) =
        let steps : steps_in p k ≡ a.steps = ap (λ o. option_map_or (λ x. x.steps) o []) left in
        let here : slice_get a.steps i ≡ None = sym (ap (λ o. option_map_or (λ x. slice_get x.steps i) o None) left) ∙ none in
        ap (λ o. option_map_or (λ x. slice_get x.steps (place (steps_in p k) i)) o None) right
        ∙ ap (λ s. slice_get b.steps (place s i)) steps ∙ past_end a b pair i here

  -- variables stay
  pub vars_there : (k : ℕ) → option_map_or (λ x. x.vars) (slice_get q.procs k) 0 ≡ option_map_or (λ x. x.vars) (slice_get p.procs k) 0
  vars_there k = by (both_at p.procs q.procs is.procs k) where
    by : BothAt p.procs q.procs k → option_map_or (λ x. x.vars) (slice_get q.procs k) 0 ≡ option_map_or (λ x. x.vars) (slice_get p.procs k) 0
    by (Neither left right) = ap (λ o. option_map_or (λ x. x.vars) o 0) (right ∙ sym left)
    by (Both a b left right pair) = ap (λ o. option_map_or (λ x. x.vars) o 0) right ∙ pair.vars ∙ sym (ap (λ o. option_map_or (λ x. x.vars) o 0) left)

  -- a step of a program is one of its procedure's
  pub step_of_proc : (k i : ℕ) (step : Step) → step_at p k i ≡ Some step → slice_get (steps_in p k) i ≡ Some step
  step_of_proc k i step there = by (slice_get p.procs k) there where
    by : (o : Option Proc) → option_map_or (λ x. slice_get x.steps i) o None ≡ Some step → slice_get (option_map_or (λ x. x.steps) o []) i ≡ Some step
    by None e = cc
    by (Some x) e = e

  -- and the other way round
  pub step_from_proc : (k i : ℕ) (step : Step) → slice_get (steps_in p k) i ≡ Some step → step_at p k i ≡ Some step
  step_from_proc k i step there = by (slice_get p.procs k) there where
    by : (o : Option Proc) → slice_get (option_map_or (λ x. x.steps) o []) i ≡ Some step → option_map_or (λ x. slice_get x.steps i) o None ≡ Some step
    by None e = cc
    by (Some x) e = e
