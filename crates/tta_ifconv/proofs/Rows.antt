-- Small programs, and what becomes of them.
use Rattle.std.proofs.Common.{◌≡◌, ℕ, zero, suc, List, [], ◌∷◌, Some, true, false, refl, ap}
use Rattle.std.specs.Prelude.{slice_get, if◌then◌else◌, codes}
use Rattle.tta_ifconv.specs.Cited.{Units, Var, Word, Eq, Lt, Ge, Step, Copy, Put, If, When, End, Program, State, Halted, is_odd, seq, next}
use Rattle.tta_ifconv.specs.Triangles.{is_triangle, is_dropped, place, becomes}
use Rattle.tta_ifconv.specs.Converted.{Converted}

-- the steps that a list of steps becomes
becoming : List Step → ℕ → List Step → List Step
becoming all i [] = []
becoming all i (step ∷ steps) = if is_dropped all i then becoming all (suc i) steps else becomes all i step ∷ becoming all (suc i) steps

-- a main of one variable
abbrev main_of : List Step → (lines : List ℕ) → Program
main_of steps lines = record { procs = record { params = 0; vars = 1; steps = steps; lines = lines } ∷ []; main = 0; init = [] }

-- ---- a branch over a copy

-- a = (a word), and 9 where it is not below 5; a is output
abbrev branching : ℕ → List Step
branching first = Copy 0 (Word first) ∷ If Lt (Var 0) (Word 5) 3 ∷ Copy 0 (Word 9) ∷ Put (Var 0) ∷ End ∷ []

-- the same with a copy under the opposite condition
abbrev copying : ℕ → List Step
copying first = Copy 0 (Word first) ∷ When Ge (Var 0) (Word 5) 0 (Word 9) ∷ Put (Var 0) ∷ End ∷ []

branching_becomes : (first : ℕ) → becoming (branching first) 0 (branching first) ≡ copying first
unfolding becoming
branching_becomes first = refl

-- the same as programs, where the text has a label in its fifth line
abbrev with_branch : ℕ → Program
with_branch first = main_of (branching first) (2 ∷ 3 ∷ 4 ∷ 6 ∷ 7 ∷ [])

abbrev with_copy : ℕ → Program
with_copy first = main_of (copying first) (2 ∷ 3 ∷ 6 ∷ 7 ∷ [])

-- the one is converted to the other; the copy's line goes
branching_converted : (first : ℕ) → Converted (with_branch first) (with_copy first)
branching_converted first = record { procs = (record { params = refl; vars = refl; count = refl; steps = steps; line_count = refl; lines = lines }, tt); main = refl; init = refl } where
  steps : (i : ℕ) (step : Step) → slice_get (branching first) i ≡ Some step → is_dropped (branching first) i ≡ false
      → slice_get (copying first) (place (branching first) i) ≡ Some (becomes (branching first) i step)
  steps zero step there stays = let same : Copy 0 (Word first) ≡ step = cc in ap (λ s. Some (becomes (branching first) 0 s)) same
  steps (suc zero) step there stays = let same : If Lt (Var 0) (Word 5) 3 ≡ step = cc in ap (λ s. Some (becomes (branching first) 1 s)) same
  steps (suc (suc zero)) step there stays = absurd cc
  steps (suc (suc (suc zero))) step there stays = let same : Put (Var 0) ≡ step = cc in ap (λ s. Some (becomes (branching first) 3 s)) same
  steps (suc (suc (suc (suc zero)))) step there stays = let same : End ≡ step = cc in ap (λ s. Some (becomes (branching first) 4 s)) same
  steps (suc (suc (suc (suc (suc i))))) step there stays = absurd cc

  lines : (i line : ℕ) → slice_get (2 ∷ 3 ∷ 4 ∷ 6 ∷ 7 ∷ []) i ≡ Some line → is_dropped (branching first) i ≡ false
      → slice_get (2 ∷ 3 ∷ 6 ∷ 7 ∷ []) (place (branching first) i) ≡ Some line
  lines zero line there stays = there
  lines (suc zero) line there stays = there
  lines (suc (suc zero)) line there stays = absurd cc
  lines (suc (suc (suc zero))) line there stays = there
  lines (suc (suc (suc (suc zero)))) line there stays = there
  lines (suc (suc (suc (suc (suc i))))) line there stays = absurd cc

-- with 3 both output 3 after four steps; with 7 both output 9, the first after five steps and the second after four
record Ends (s : State) (word count : ℕ) : Type 0 where
  outcome : s.outcome ≡ Halted
  output : s.output ≡ word ∷ []
  steps : s.steps ≡ count

module _ (u : Units) where
  small_ends : is_odd u (codes "lt") 3 5 ≡ true → Ends (seq u (with_branch 3) [] [] 4) 3 4
  unfolding next
  small_ends less = record { outcome = rw less refl; output = rw less refl; steps = rw less refl }

  small_copies : is_odd u (codes "lt") 3 5 ≡ true → Ends (seq u (with_copy 3) [] [] 4) 3 4
  unfolding next
  small_copies less = record { outcome = rw less refl; output = rw less refl; steps = rw less refl }

  great_ends : is_odd u (codes "lt") 7 5 ≡ false → Ends (seq u (with_branch 7) [] [] 5) 9 5
  unfolding next
  great_ends less = record { outcome = rw less refl; output = rw less refl; steps = rw less refl }

  great_copies : is_odd u (codes "lt") 7 5 ≡ false → Ends (seq u (with_copy 7) [] [] 4) 9 4
  unfolding next
  great_copies less = record { outcome = rw less refl; output = rw less refl; steps = rw less refl }

-- ---- a copy that another step names

-- a = 3; where a is 0 it becomes 9, and else where it is not below 5
abbrev named : List Step
named = Copy 0 (Word 3) ∷ If Eq (Var 0) (Word 0) 3 ∷ If Lt (Var 0) (Word 5) 4 ∷ Copy 0 (Word 9) ∷ Put (Var 0) ∷ End ∷ []

-- the copy is named, so there is no triangle, and nothing changes
named_has_none : becoming named 0 named ≡ named
unfolding becoming
named_has_none = refl

named_stays : (is_triangle named 1 ≡ false) × (is_triangle named 2 ≡ false)
named_stays = (refl, refl)

named_ends : (u : Units) → is_odd u (codes "eq") 3 0 ≡ false → is_odd u (codes "lt") 3 5 ≡ true → Ends (seq u (main_of named (2 ∷ 3 ∷ 4 ∷ 6 ∷ 8 ∷ 9 ∷ [])) [] [] 5) 3 5
unfolding next
named_ends u other less = record { outcome = rw (other, less) refl; output = rw (other, less) refl; steps = rw (other, less) refl }
