-- What holds of the blocks of every program.
use Rattle.std.specs.Prelude.{◌≡◌, ℕ, ◌+◌, ◌<◌, ◌≤◌, true, false, List, Some, slice_get}
use Rattle.std.specs.Option.{option_map_or}
use Rattle.tta_flow.specs.Cited.{Proc, Program}
use Rattle.tta_flow.specs.declared.flow.Block.{Block}
use Rattle.tta_flow.specs.Steps.{falls_through, cuts_at, leads}
use Rattle.tta_flow.specs.Blocks.{Holds}

-- a block begins with this step
pub record BeginsWith (blocks : List Block) (owner step : ℕ) : Type 0 where
  pub at : ℕ
  pub block : Block
  pub is : slice_get blocks at ≡ Some block
  pub mine : block.owner ≡ owner
  pub first : block.first ≡ step

-- Each step stands in one block. A procedure's first step begins a block, and so does each that can follow the last of a
-- block; where that one falls on, the next block begins with it. Before its last step a block goes on step by step.
pub record FlowLaws (p : Program) (blocks : List Block) : Type 0 where
  pub once : (owner i : ℕ) (a b : Holds blocks owner i) → a.at ≡ b.at
  pub entry : (owner : ℕ) (q : Proc) → slice_get p.procs owner ≡ Some q → BeginsWith blocks owner 0
  pub next : (k : ℕ) (b : Block) (q : Proc) (j : ℕ) → slice_get blocks k ≡ Some b → slice_get p.procs b.owner ≡ Some q
      → leads q.steps b.last j ≡ true → BeginsWith blocks b.owner j
  pub falls_through : (k : ℕ) (b : Block) (q : Proc) → slice_get blocks k ≡ Some b → slice_get p.procs b.owner ≡ Some q
      → option_map_or falls_through (slice_get q.steps b.last) false ≡ true
      → (c : Block) × ((slice_get blocks (k + 1) ≡ Some c) × ((c.owner ≡ b.owner) × (c.first ≡ b.last + 1)))
  pub inside : (k : ℕ) (b : Block) (q : Proc) (i : ℕ) → slice_get blocks k ≡ Some b → slice_get p.procs b.owner ≡ Some q
      → b.first ≤ i → i < b.last → (cuts_at q.steps i ≡ false) × ((j : ℕ) → leads q.steps i j ≡ true → j ≡ i + 1)
