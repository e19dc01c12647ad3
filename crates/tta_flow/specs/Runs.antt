-- Runs of places that pass a test, cut where others begin.
use Rattle.std.specs.Prelude.{◌≡◌, ℕ, ◌+◌, ◌<◌, ◌≤◌, ◌==◌, Bool, true, false, ◌&&◌, ◌||◌, List, Some, slice_get}
use Rattle.tta_flow.specs.Cited.{Step}
use Rattle.tta_flow.specs.declared.flow.Block.{Block}
use Rattle.tta_flow.specs.Steps.{cuts_at, branches}

-- whether a block begins at a place because of the step at another
abbrev pub begins_by : List Step → (reached : ℕ → Bool) → (at place : ℕ) → Bool
begins_by steps reached at place = (cuts_at steps at && at + 1 == place) || (reached at && branches steps at place)

-- a place that was reached begins a run, or goes on the run of the place before it
abbrev pub AreEntered : (reached first : ℕ → Bool) → Type 0
AreEntered reached first = (i : ℕ) → reached i ≡ true → first i ≡ false → (k : ℕ) × ((i ≡ k + 1) × (reached k ≡ true))

-- a maximal run of reached places, in which only the first begins one
pub record IsRun (seen first : ℕ → Bool) (from to : ℕ) : Type 0 where
  pub within : from ≤ to
  pub reached : (i : ℕ) → from ≤ i → i ≤ to → seen i ≡ true
  pub begins : first from ≡ true
  pub only : (i : ℕ) → from < i → i ≤ to → first i ≡ false
  pub ends : seen (to + 1) ≡ true → first (to + 1) ≡ true

-- all the runs that end below a number, in order
pub record AreRuns (owner : ℕ) (reached first : ℕ → Bool) (places : ℕ) (blocks : List Block) : Type 0 where
  pub sound : (k : ℕ) (b : Block) → slice_get blocks k ≡ Some b → (b.owner ≡ owner) × IsRun reached first b.first b.last
  pub below : (k : ℕ) (b : Block) → slice_get blocks k ≡ Some b → b.last < places
  pub whole : (from to : ℕ) → to < places → IsRun reached first from to → (k : ℕ) × (slice_get blocks k ≡ Some (record { owner = owner; first = from; last = to }))
  pub rising : (j k : ℕ) (a b : Block) → j < k → slice_get blocks j ≡ Some a → slice_get blocks k ≡ Some b → a.last < b.last
