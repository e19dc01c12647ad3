-- The candidates of a block, and which of their placements stays.
use Rattle.std.specs.Prelude.{◌≡◌, ℕ, ◌<◌, ◌≤◌, List, length, Some, slice_get}
use Rattle.tta_build.specs.Cited.{Machine, BlockList, Placed, IsEquivalent, optimised, HasForms, AreFirstFits, AreRoomy}

-- a list is a candidate of a block: it may be placed for the block's list, and is in all forms
pub record IsCandidate (m : Machine) (b l : BlockList) : Type 0 where
  pub stands : IsEquivalent m b l
  pub forms : HasForms m l

-- Lists are candidates of a block, and the first of them is the block's list after the passes.
pub record AreCandidates (m : Machine) (b : BlockList) (lists : List BlockList) : Type 0 where
  pub first : slice_get lists 0 ≡ Some (optimised m b)
  pub each : (k : ℕ) (l : BlockList) → slice_get lists k ≡ Some l → IsCandidate m b l

-- A placement is the shortest among first fits of some lists, one of each, and on a tie the first of them.
pub record IsShortest (m : Machine) (lists : List BlockList) (p : Placed) : Type 0 where
  pub fits : List Placed
  pub first : AreFirstFits m lists fits
  pub roomy : AreRoomy m lists fits
  pub at : ℕ
  pub there : slice_get fits at ≡ Some p
  pub before : (k : ℕ) (q : Placed) → k < at → slice_get fits k ≡ Some q → p.length < q.length
  pub least : (k : ℕ) (q : Placed) → slice_get fits k ≡ Some q → p.length ≤ q.length

-- The placement of a block is the shortest of its candidates. So it is no longer than that of its list after the passes.
pub record IsChosen (m : Machine) (b : BlockList) (p : Placed) : Type 0 where
  pub lists : List BlockList
  pub candidates : AreCandidates m b lists
  pub shortest : IsShortest m lists p

-- one placement for each block, which is chosen so
pub record AreChosen (m : Machine) (blocks : List BlockList) (ps : List Placed) : Type 0 where
  pub count : length ps ≡ length blocks
  pub each : (k : ℕ) (b : BlockList) (p : Placed) → slice_get blocks k ≡ Some b → slice_get ps k ≡ Some p → IsChosen m b p
