-- Paths of steps: which steps a procedure comes to, and which variables are read later on.
use Rattle.std.specs.Prelude.{◌≡◌, ℕ, ◌<◌, true, false, List, length}
use Rattle.tta_flow.specs.Cited.{Step}
use Rattle.tta_flow.specs.Steps.{reads_at, assigns_at, leads}

-- a path leads from a procedure's first step to this one
pub data Reached (steps : List Step) : ℕ → Type 0 where
  Begin : Reached steps 0
  Onward : (i j : ℕ) → Reached steps i → leads steps i j ≡ true → Reached steps j

-- there is a first step, and no path leaves the steps
pub record IsClosed (steps : List Step) : Type 0 where
  pub some : 0 < length steps
  pub within : (i j : ℕ) → leads steps i j ≡ true → j < length steps

-- A path starts at this step and ends at one that reads the variable; no step before the last assigns it.
pub data LiveBefore (steps : List Step) (x : ℕ) : ℕ → Type 0 where
  ReadHere : (i : ℕ) → reads_at steps i x ≡ true → LiveBefore steps x i
  ReadLater : (i j : ℕ) → assigns_at steps i x ≡ false → leads steps i j ≡ true → LiveBefore steps x j → LiveBefore steps x i

-- a variable is live after a step where it is live before one that can follow
pub record LiveAfter (steps : List Step) (x i : ℕ) : Type 0 where
  pub next : ℕ
  pub leads : leads steps i next ≡ true
  pub live : LiveBefore steps x next
