-- Silent steps at their places.
use Rattle.std.proofs.Common.{◌≡◌, ℕ, zero, suc, Bool, true, false, List, [], ◌∷◌, map, get_or, slice_get, is_some, Option, Some, None, refl, ap, sym, ◌∙◌, ◌<◌, length, arith}
use Rattle.std.specs.Prelude.{if◌then◌else◌, option_map}
use Rattle.std.specs.Option.{option_map_or}
use Rattle.std.proofs.lemmas.Option.{slice_get-map, slice_get_within}
use Rattle.std.proofs.lemmas.List.{length-map}
use Rattle.tta_tacrun.specs.Cited.{Step, Proc, Program, step_at}
use Rattle.tta_tacrun.proofs.Calling.{size_at}
use Rattle.tta_tacrun.specs.Run.{AreSilentOf, HasSteps, SilentProc, code_of, is_silent, is_silent_there, silent_at, silent_part}

-- ---- lists

-- what is made of the element at a place
pub at_mapped : {A B : Type 0} (f : A → Option B) (xs : List A) (i : ℕ) → get_or (map f xs) i None ≡ option_map_or f (slice_get xs i) None
at_mapped f [] i = refl
at_mapped f (x ∷ xs) zero = refl
at_mapped f (x ∷ xs) (suc i) = at_mapped f xs i

pub mapped_at : {A B : Type 0} (f : A → Option B) (xs : List A) (i : ℕ) (x : A) → slice_get xs i ≡ Some x → get_or (map f xs) i None ≡ f x
mapped_at f xs i x here = at_mapped f xs i ∙ ap (λ o. option_map_or f o None) here

pub none_at : {A B : Type 0} (f : A → Option B) (xs : List A) (i : ℕ) → slice_get xs i ≡ None → get_or (map f xs) i None ≡ None
none_at f xs i here = at_mapped f xs i ∙ ap (λ o. option_map_or f o None) here

-- ---- steps

-- a silent step at a place is the step there
pub silent_step : (p : Program) (proc at : ℕ) (step : Step) → silent_at p proc at ≡ Some step → step_at p proc at ≡ Some step
silent_step p proc at step here = by (step_at p proc at) refl here where
  part : (s : Step) (silent : Bool) → (if silent then Some s else None) ≡ Some step → Some s ≡ Some step
  part s true is = is
  part s false is = cc

  by : (there : Option Step) → step_at p proc at ≡ there → option_map_or silent_part there None ≡ Some step → there ≡ Some step
  by None same is = cc
  by (Some s) same is = part s (is_silent s) is

-- what is the silent part of a step, and is there, is the step
pub silent_of : (step : Step) (part : Option Step) → part ≡ silent_part step → is_some part ≡ true → part ≡ Some step
silent_of step part is some = by (is_silent step) is where
  by : (silent : Bool) → part ≡ (if silent then Some step else None) → part ≡ Some step
  by true is = is
  by false is = cc

pub silent_some : (step : Step) → is_some (silent_part step) ≡ is_silent step
silent_some step = by (is_silent step) where
  by : (silent : Bool) → is_some (if silent then Some step else None) ≡ silent
  by true = refl
  by false = refl

-- where there is none, the step there is another
pub not_silent : (p : Program) (proc at : ℕ) → silent_at p proc at ≡ None → is_silent_there (step_at p proc at) ≡ false
not_silent p proc at none = by (step_at p proc at) none where
  part : (s : Step) (silent : Bool) → (if silent then Some s else None) ≡ None → silent ≡ false
  part s true is = cc
  part s false is = refl

  by : (there : Option Step) → option_map_or silent_part there None ≡ None → is_silent_there there ≡ false
  by None is = refl
  by (Some s) is = part s (is_silent s) is

-- ---- the steps of a program

abbrev proc_part : Proc → SilentProc
proc_part q = record { size = q.vars; steps = map silent_part q.steps }

-- a procedure of the code is one of the program
module _ (p : Program) (proc : ℕ) where
  there_of : (part : Option SilentProc) → slice_get (code_of p) proc ≡ part → option_map proc_part (slice_get p.procs proc) ≡ part
  there_of part here = sym (slice_get-map proc_part p.procs proc) ∙ here

  pub code_steps : (part : SilentProc) → slice_get (code_of p) proc ≡ Some part → AreSilentOf p proc part.steps
  code_steps part here at = by (slice_get p.procs proc) refl (there_of (Some part) here) where
    by : (q : Option Proc) → slice_get p.procs proc ≡ q → option_map proc_part q ≡ Some part → get_or part.steps at None ≡ silent_at p proc at
    by None there is = cc
    by (Some q) there is =
        let same : proc_part q ≡ part = cc in
        ap (λ r. get_or r.steps at None) (sym same) ∙ at_mapped silent_part q.steps at
        ∙ ap (λ o. option_map_or silent_part (option_map_or (λ q. slice_get q.steps at) o None) None) (sym there)

  pub code_size : (part : SilentProc) → slice_get (code_of p) proc ≡ Some part → part.size ≡ get_or (map (λ q. q.vars) p.procs) proc 0
  code_size part here = by (slice_get p.procs proc) refl (there_of (Some part) here) where
    by : (q : Option Proc) → slice_get p.procs proc ≡ q → option_map proc_part q ≡ Some part → part.size ≡ get_or (map (λ q. q.vars) p.procs) proc 0
    by None there is = cc
    by (Some q) there is =
        let same : proc_part q ≡ part = cc in
        ap (λ r. r.size) (sym same) ∙ ap (λ o. option_map_or (λ q. q.vars) o 0) (sym there) ∙ sym (size_at p.procs proc)

  pub code_all : (part : SilentProc) → slice_get (code_of p) proc ≡ Some part → HasSteps p proc (length part.steps)
  code_all part here at some = by (slice_get p.procs proc) (there_of (Some part) here) some where
    within : (steps : List Step) (step : Option Step) → slice_get steps at ≡ step → is_some step ≡ true → at < length steps
    within steps None is some = cc
    within steps (Some step) is some = slice_get_within steps at step is

    by : (q : Option Proc) → option_map proc_part q ≡ Some part → is_some (option_map_or (λ q. slice_get q.steps at) q None) ≡ true → at < length part.steps
    by None is some = cc
    by (Some q) is some =
        let same : proc_part q ≡ part = cc in
        let many : length part.steps ≡ length q.steps = ap (λ r. length r.steps) (sym same) ∙ length-map q.steps silent_part in
        omega (arith, many, within q.steps (slice_get q.steps at) refl some)

  -- no step is in a procedure that is not there
  pub code_none : slice_get (code_of p) proc ≡ None → (at : ℕ) → step_at p proc at ≡ None
  code_none none at = by (slice_get p.procs proc) refl (there_of None none) where
    by : (q : Option Proc) → slice_get p.procs proc ≡ q → option_map proc_part q ≡ None → step_at p proc at ≡ None
    by None there is = ap (λ o. option_map_or (λ q. slice_get q.steps at) o None) there
    by (Some q) there is = cc
