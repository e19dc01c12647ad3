-- The basic blocks of a program.
use Rattle.std.specs.Prelude.{◌≡◌, ℕ, ◌+◌, ◌<◌, ◌≤◌, true, List, Some, slice_get, ◌⊎◌}
use Rattle.tta_flow.specs.Cited.{Step, Proc, Program}
use Rattle.tta_flow.specs.declared.flow.Block.{Block}
use Rattle.tta_flow.specs.Steps.{cuts_at, branches}
use Rattle.tta_flow.specs.Paths.{Reached}

-- a step with which a block begins: the first one, one that a branch on some path names, and one after a branch, a call,
-- a return or a halt
pub data IsFirst (steps : List Step) : ℕ → Type 0 where
  AtBegin : IsFirst steps 0
  Named : (from to : ℕ) → Reached steps from → branches steps from to ≡ true → IsFirst steps to
  After : (i : ℕ) → cuts_at steps i ≡ true → IsFirst steps (i + 1)

-- A block is a maximal run of steps that paths come to, in which only the first is one with which a block begins.
pub record IsBlock (steps : List Step) (first last : ℕ) : Type 0 where
  pub within : first ≤ last
  pub reached : (i : ℕ) → first ≤ i → i ≤ last → Reached steps i
  pub begins : IsFirst steps first
  pub only : (i : ℕ) → first < i → i ≤ last → IsFirst steps i → ⊥
  pub ends : Reached steps (last + 1) → IsFirst steps (last + 1)

-- some block holds a step of a procedure
pub record Holds (blocks : List Block) (owner i : ℕ) : Type 0 where
  pub at : ℕ
  pub block : Block
  pub is : slice_get blocks at ≡ Some block
  pub mine : block.owner ≡ owner
  pub low : block.first ≤ i
  pub high : i ≤ block.last

-- all blocks of a procedure, in order
pub record AreBlocks (owner : ℕ) (steps : List Step) (blocks : List Block) : Type 0 where
  pub sound : (k : ℕ) (b : Block) → slice_get blocks k ≡ Some b → (b.owner ≡ owner) × IsBlock steps b.first b.last
  pub whole : (first last : ℕ) → IsBlock steps first last
      → (k : ℕ) × (slice_get blocks k ≡ Some (record { owner = owner; first = first; last = last }))
  pub rising : (j k : ℕ) (a b : Block) → j < k → slice_get blocks j ≡ Some a → slice_get blocks k ≡ Some b → a.last < b.first
  pub covers : (i : ℕ) → Reached steps i → Holds blocks owner i

-- the same of a block of a program
pub record IsBlockOf (p : Program) (b : Block) : Type 0 where
  pub proc : Proc
  pub is : slice_get p.procs b.owner ≡ Some proc
  pub block : IsBlock proc.steps b.first b.last

-- one block stands before another in the text
abbrev pub StandsBefore : Block → Block → Type 0
StandsBefore a b = (a.owner < b.owner) ⊎ ((a.owner ≡ b.owner) × (a.last < b.first))

-- The blocks of a flow are those of a program: all of them, in the order of the text. So each step that paths come to
-- stands in one of them.
pub record IsFlow (p : Program) (blocks : List Block) : Type 0 where
  pub sound : (k : ℕ) (b : Block) → slice_get blocks k ≡ Some b → IsBlockOf p b
  pub whole : (b : Block) → IsBlockOf p b → (k : ℕ) × (slice_get blocks k ≡ Some b)
  pub rising : (j k : ℕ) (a b : Block) → j < k → slice_get blocks j ≡ Some a → slice_get blocks k ≡ Some b → StandsBefore a b
  pub covers : (owner i : ℕ) (q : Proc) → slice_get p.procs owner ≡ Some q → Reached q.steps i → Holds blocks owner i
