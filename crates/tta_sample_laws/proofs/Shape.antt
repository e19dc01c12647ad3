-- The shape of a sample's program: steps before the rounds, those of a round, and what counts the rounds.
use Rattle.std.proofs.Common.{◌≡◌, ℕ, zero, suc, ◌+◌, ◌<◌, ◌≤◌, List, [], ◌∷◌, ◌++◌, length, refl, subst, arith}
use Rattle.std.specs.Prelude.{Some, slice_get}
use Rattle.tta_sample_laws.specs.Cited.{OpId, Var, Word, Ne, Step, Copy, Apply, Load, Store, Put, If, When, Halt, End, DataLine, Program}

-- the steps before the rounds: eight variables and the counter get their first values
abbrev pub before : List Step
before =
    Copy 0 (Word 1) ∷ Copy 1 (Word 2) ∷ Copy 2 (Word 3) ∷ Copy 3 (Word 4) ∷ Copy 4 (Word 5) ∷ Copy 5 (Word 6) ∷ Copy 6 (Word 7) ∷ Copy 7 (Word 8)
    ∷ Copy 8 (Word 16) ∷ []

-- the steps after the rounds
abbrev pub after : List Step
after =
    Put (Var 0) ∷ Put (Var 1) ∷ Put (Var 2) ∷ Put (Var 3) ∷ Put (Var 4) ∷ Put (Var 5) ∷ Put (Var 6) ∷ Put (Var 7) ∷ Halt ∷ End ∷ []

-- the end of a round: it is counted, and the next one begins where the count is not 0
abbrev pub counting : OpId → List Step
counting sub = Apply 8 sub (Var 8) (Word 1) ∷ If Ne (Var 8) (Word 0) 9 ∷ after

-- all steps
abbrev pub steps_of : OpId → (body : List Step) → List Step
steps_of sub body = before ++ (body ++ counting sub)

-- the program
abbrev pub shaped : OpId → (body : List Step) (lines : List ℕ) (init : List DataLine) → Program
shaped sub body lines init = record {
  procs = record { params = 0; vars = 9; steps = steps_of sub body; lines = lines } ∷ [];
  main = 0;
  init = init;
}

-- A step of a round at a place: it leaves the counter alone, takes no word, and comes to the next step or to a later one, no
-- further than the round's end.
abbrev pub IsMild : (at end : ℕ) → Step → Type 0
IsMild at end (Copy d s) = d < 8
IsMild at end (Apply d op a b) = d < 8
IsMild at end (Load d a) = d < 8
IsMild at end (Store a v) = Unit {0}
IsMild at end (Put v) = Unit {0}
IsMild at end (When rel a b d s) = d < 8
IsMild at end (If rel a b to) = (at < to) × (to ≤ end)
IsMild at end step = ⊥

-- all steps of a round, the first of them at this place
abbrev pub AreMild : (at end : ℕ) → List Step → Type 0
AreMild at end [] = Unit {0}
AreMild at end (s ∷ ss) = IsMild at end s × AreMild (at + 1) end ss

-- a step of them by its place
pub record MildAt (at end k : ℕ) (body : List Step) : Type 0 where
  pub step : Step
  pub there : slice_get body k ≡ Some step
  pub mild : IsMild (at + k) end step

pub mild_at : (at end k : ℕ) (body : List Step) → AreMild at end body → k < length body → MildAt at end k body
mild_at at end k [] are less = absurd (omega arith)
mild_at at end zero (s ∷ ss) are less =
    record { step = s; there = refl; mild = subst (λ n. IsMild n end s) (let e : at ≡ at + zero = omega arith in e) are.0 }
mild_at at end (suc k) (s ∷ ss) are less =
    let m = mild_at (at + 1) end k ss are.1 (omega arith) in
    record { step = m.step; there = m.there; mild = subst (λ n. IsMild n end m.step) (let e : (at + 1) + k ≡ at + suc k = omega arith in e) m.mild }
