-- The first step whose need no usable unit offers.
use Rattle.std.proofs.Common.{◌≡◌, ◌<◌, ◌≤◌, ◌+◌, ℕ, Bool, true, false, List, [], ◌∷◌, Option, Some, None, get_or, drop, drop-cons, add-one, length, refl, sym, ap, ◌∙◌}
use Rattle.std.specs.Prelude.{if◌then◌else◌, ◌&&◌, IfNone, IfSome, option_map, slice_index}
use Rattle.std.specs.List.{list_all}
use Rattle.std.proofs.lemmas.List.{drop_all}
use Rattle.tta_build.specs.Cited.{Units, Machine, first_some, or_else, Choice, Step, Proc, Program, is_served, are_offered, first_failing, unoffered_in, first_unoffered}

-- ---- along a list

-- a list from a place on is its item there and the rest
pub rest_from : {A : Type 0} (xs : List A) (i : ℕ) (d : A) → i < length xs → drop i xs ≡ get_or xs i d ∷ drop (i + 1) xs
rest_from xs i d lt = drop-cons xs i d lt ∙ ap (λ j. get_or xs i d ∷ drop j xs) (sym (add-one i))

-- past its end a list has nothing left
pub nothing_left : {A : Type 0} (xs : List A) (i : ℕ) → length xs ≤ i → drop i xs ≡ []
nothing_left xs i le = drop_all i xs le

-- the first step that fails from a place on is that of the place, or else the first from the next on
pub failing_from : (test : Step → Bool) (steps : List Step) (i : ℕ) (d : Step) → i < length steps
    → first_failing test i (drop i steps) ≡ (if test (get_or steps i d) then first_failing test (i + 1) (drop (i + 1) steps) else Some i)
failing_from test steps i d lt = ap (first_failing test i) (rest_from steps i d lt)

-- past the end no step fails
pub failing_none : (test : Step → Bool) (steps : List Step) (i : ℕ) → length steps ≤ i → first_failing test i (drop i steps) ≡ None
failing_none test steps i le = ap (first_failing test i) (nothing_left steps i le)

-- the first answer from a place on is that of the place, or else the first from the next on
pub some_from : {A B : Type 0} (f : A → Option B) (xs : List A) (i : ℕ) (d : A) → i < length xs → first_some f (drop i xs) ≡ or_else (f (get_or xs i d)) (first_some f (drop (i + 1) xs))
some_from f xs i d lt = ap (first_some f) (rest_from xs i d lt)

-- past the end there is no answer
pub some_none : {A B : Type 0} (f : A → Option B) (xs : List A) (i : ℕ) → length xs ≤ i → first_some f (drop i xs) ≡ None
some_none f xs i le = ap (first_some f) (nothing_left xs i le)

-- ---- no step fails exactly where all pass

all_pass : (test : Step → Bool) (k : ℕ) (steps : List Step) → first_failing test k steps ≡ None → list_all test steps ≡ true
all_pass test k [] e = refl
all_pass test k (st ∷ steps) e = on (test st) e (λ h. all_pass test (k + 1) steps h) where
  on : (b : Bool) → (if b then first_failing test (k + 1) steps else Some k) ≡ None → (first_failing test (k + 1) steps ≡ None → list_all test steps ≡ true) → (b && list_all test steps) ≡ true
  on true e ih = ih e
  on false e ih = absurd cc

one_fails : (test : Step → Bool) (k : ℕ) (steps : List Step) (j : ℕ) → first_failing test k steps ≡ Some j → list_all test steps ≡ false
one_fails test k [] j e = absurd cc
one_fails test k (st ∷ steps) j e = on (test st) e (λ h. one_fails test (k + 1) steps j h) where
  on : (b : Bool) → (if b then first_failing test (k + 1) steps else Some k) ≡ Some j → (first_failing test (k + 1) steps ≡ Some j → list_all test steps ≡ false) → (b && list_all test steps) ≡ false
  on true e ih = ih e
  on false e ih = refl

module _ (u : Units) (m : Machine) (c : Choice) where
  -- a procedure has no such step exactly where all its steps are served
  abbrev all_served : Proc → Bool
  all_served q = list_all (is_served u m c) q.steps

  none_in : (q : Proc) → unoffered_in u m c q ≡ None → all_served q ≡ true
  none_in q e = on (first_failing (is_served u m c) 0 q.steps) refl e where
    on : (o : Option ℕ) → first_failing (is_served u m c) 0 q.steps ≡ o → option_map (slice_index q.lines) o ≡ None → list_all (is_served u m c) q.steps ≡ true
    on None is e = all_pass (is_served u m c) 0 q.steps is
    on (Some k) is e = absurd cc

  some_in : (q : Proc) (line : ℕ) → unoffered_in u m c q ≡ Some line → all_served q ≡ false
  some_in q line e = on (first_failing (is_served u m c) 0 q.steps) refl e where
    on : (o : Option ℕ) → first_failing (is_served u m c) 0 q.steps ≡ o → option_map (slice_index q.lines) o ≡ Some line → list_all (is_served u m c) q.steps ≡ false
    on None is e = absurd cc
    on (Some k) is e = one_fails (is_served u m c) 0 q.steps k is

  none_among : (qs : List Proc) → first_some (unoffered_in u m c) qs ≡ None → list_all (λ q. list_all (is_served u m c) q.steps) qs ≡ true
  none_among [] e = refl
  none_among (q ∷ qs) e = on (unoffered_in u m c q) refl e (λ h. none_among qs h) where
    on : (o : Option ℕ) → unoffered_in u m c q ≡ o → or_else o (first_some (unoffered_in u m c) qs) ≡ None
        → (first_some (unoffered_in u m c) qs ≡ None → list_all (λ q. list_all (is_served u m c) q.steps) qs ≡ true) → list_all (λ q. list_all (is_served u m c) q.steps) (q ∷ qs) ≡ true
    on None is e ih = rw (none_in q is, ih e) refl
    on (Some line) is e ih = absurd cc

  some_among : (qs : List Proc) (line : ℕ) → first_some (unoffered_in u m c) qs ≡ Some line → list_all (λ q. list_all (is_served u m c) q.steps) qs ≡ false
  some_among [] line e = absurd cc
  some_among (q ∷ qs) line e = on (unoffered_in u m c q) refl e (λ h. some_among qs line h) where
    both : (a b : Bool) → b ≡ false → (a && b) ≡ false
    both true b e = e
    both false b e = refl

    on : (o : Option ℕ) → unoffered_in u m c q ≡ o → or_else o (first_some (unoffered_in u m c) qs) ≡ Some line
        → (first_some (unoffered_in u m c) qs ≡ Some line → list_all (λ q. list_all (is_served u m c) q.steps) qs ≡ false) → list_all (λ q. list_all (is_served u m c) q.steps) (q ∷ qs) ≡ false
    on None is e ih = both (all_served q) (list_all (λ q. list_all (is_served u m c) q.steps) qs) (ih e)
    on (Some l) is e ih = rw (some_in q l is) refl

  -- where there is no such step, usable units offer all that the program needs
  pub none_offered : (p : Program) (found : Option ℕ) → found ≡ first_unoffered u m c p → IfNone found (are_offered u m c p ≡ true)
  none_offered p None e = none_among p.procs (sym e)
  none_offered p (Some line) e = tt

  -- where there is one, they do not
  pub some_missing : (p : Program) (found : Option ℕ) → found ≡ first_unoffered u m c p → IfSome found (λ line. are_offered u m c p ≡ false)
  some_missing p None e = tt
  some_missing p (Some line) e = some_among p.procs line (sym e)
