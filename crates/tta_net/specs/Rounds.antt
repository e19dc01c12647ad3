-- Rounds: in each, every core by its number makes one cycle.
use Rattle.std.specs.Prelude.{◌≡◌, ℕ, zero, suc, ◌+◌, ◌<◌, ◌≤◌, Bool, true, false, List, [], ◌∷◌, ◌++◌, map, replicate, Option, Some}
use Rattle.std.specs.Option.{option_map_or}
use Rattle.std.specs.List.{list_any}
use Rattle.tta_net.specs.Cited.{State, Network, NetworkCore, turn, interleaved}
use Rattle.tta_net.specs.declared.step_result.StepResult.{StepResult}
use Rattle.tta_net.specs.declared.step_result.StepResult.TheVariants as turn_told
use Rattle.tta_net.specs.Clusters.{told_at}

-- the numbers of so many cores, in order
abbrev pub numbers : (count : ℕ) → List ℕ
numbers zero = []
numbers (suc n) = numbers n ++ n ∷ []

-- the cores after one round
abbrev pub round : Network State → (count : ℕ) → List (NetworkCore State) → List (NetworkCore State)
round net count cs = interleaved net cs (numbers count)

-- the steps of so many rounds
abbrev pub steps_in : (count made : ℕ) → List ℕ
steps_in count zero = []
steps_in count (suc n) = steps_in count n ++ numbers count

-- the cores after so many rounds, which are one order of steps
abbrev pub after_rounds : Network State → (count : ℕ) → List (NetworkCore State) → (made : ℕ) → List (NetworkCore State)
after_rounds net count cs made = interleaved net cs (steps_in count made)

-- what each of these steps answers, one after another
abbrev pub answers : Network State → List (NetworkCore State) → (steps : List ℕ) → List (Option StepResult)
answers net cs [] = []
answers net cs (core ∷ steps) = told_at net cs core ∷ answers net (turn net cs core) steps

-- whether a turn made a cycle
abbrev pub is_ran : StepResult → Bool
is_ran turn_told.Ran = true
is_ran turn_told.Halted = false
is_ran turn_told.Waiting = false
is_ran (turn_told.Fault number) = false

-- what the turns of a round answer, and whether some core ran in it
abbrev pub answers_in : Network State → (count : ℕ) → List (NetworkCore State) → (made : ℕ) → List (Option StepResult)
answers_in net count cs made = answers net (after_rounds net count cs made) (numbers count)

abbrev pub went_in : Network State → (count : ℕ) → List (NetworkCore State) → (made : ℕ) → Bool
went_in net count cs made = list_any (λ o. option_map_or is_ran o false) (answers_in net count cs made)

-- what the last turn of each core answers after so many rounds: a core that had none counts as one that goes on
abbrev pub last_answers : Network State → (count : ℕ) → List (NetworkCore State) → (made : ℕ) → List (Option StepResult)
last_answers net count cs zero = replicate count (Some turn_told.Ran)
last_answers net count cs (suc n) = answers_in net count cs n

-- So many rounds are made of those that may be: it stops after the first in which no core ran.
pub record StopsAfter (net : Network State) (count : ℕ) (cs : List (NetworkCore State)) (most made : ℕ) : Type 0 where
  pub within : made ≤ most
  pub before : (i : ℕ) → i + 1 < made → went_in net count cs i ≡ true
  pub over : made < most → (last : ℕ) × (made ≡ last + 1) × (went_in net count cs last ≡ false)

-- What rounds came to: how many were made, whether some core ran in each that may be made, what the last turn of each core answered,
-- and for which cluster the cores then stand.
pub record HasEnded (net : Network State) (count : ℕ) (cs : List (NetworkCore State)) (most : ℕ) (is_running : Bool) (last : List StepResult) (Stands : List (NetworkCore State) → Type 0) : Type 0 where
  pub made : ℕ
  pub stops : StopsAfter net count cs most made
  pub running : is_running ≡ true → (i : ℕ) → i < most → went_in net count cs i ≡ true
  pub resting : is_running ≡ false → (i : ℕ) × (made ≡ i + 1) × (went_in net count cs i ≡ false)
  pub answers : map (λ t. Some t) last ≡ last_answers net count cs made
  pub stands : Stands (after_rounds net count cs made)
