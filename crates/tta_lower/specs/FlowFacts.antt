-- What the crates below state of blocks and homes, in their own words over the steps of one procedure.
use Rattle.std.specs.Prelude.{◌≡◌, ◌≢◌, ℕ, ◌+◌, ◌<◌, ◌≤◌, ◌==◌, ◌⊎◌, Bool, true, false, List, length, Option, Some, None, slice_get}
use Rattle.tta_lower.specs.Cited.{Src, Step, Proc, Program, step_at}
use Rattle.tta_program.specs.declared.step.Step.TheVariants.{If, Goto, Invoke}
use Rattle.tta_lower.specs.Liveness.{Block, Has, Homes, Reached, LiveBefore, LiveAfter, Touches, is_plain}

-- ---- blocks

-- whether a step names another
abbrev pub names_step : Step → ℕ → Bool
names_step (If rel a b target) to = target == to
names_step (Goto target) to = target == to
names_step step to = false

-- a step with which a block begins: the first one, one that a branch on some path names, and one after a branch, a call,
-- a return or a halt
pub data IsFirst (p : Program) (owner : ℕ) : ℕ → Type 0 where
  AtBegin : (at : ℕ) → at ≡ 0 → IsFirst p owner at
  Named : (from to : ℕ) (st : Step) → Reached p owner from → step_at p owner from ≡ Some st → names_step st to ≡ true → IsFirst p owner to
  AfterStep : (i at : ℕ) (st : Step) → step_at p owner i ≡ Some st → is_plain st ≡ false → at ≡ i + 1 → IsFirst p owner at

-- a block is a maximal run of steps that paths come to, in which only the first is one with which a block begins
pub record IsRun (p : Program) (owner first last : ℕ) : Type 0 where
  pub within : first ≤ last
  pub reached : (i : ℕ) → first ≤ i → i ≤ last → Reached p owner i
  pub begins : IsFirst p owner first
  pub only : (i : ℕ) → first < i → i ≤ last → IsFirst p owner i → ⊥
  pub ends : Reached p owner (last + 1) → IsFirst p owner (last + 1)

-- some block holds a step of a procedure
pub record Holds (blocks : List Block) (owner i : ℕ) : Type 0 where
  pub block : Block
  pub has : Has blocks block
  pub mine : block.owner ≡ owner
  pub low : block.first ≤ i
  pub high : i ≤ block.last

-- one block stands before another in the text
abbrev pub StandsBefore : Block → Block → Type 0
StandsBefore a b = (a.owner < b.owner) ⊎ ((a.owner ≡ b.owner) × (a.last < b.first))

-- the blocks of a program: runs, in the order of the text, that hold each step to which paths come
pub record AreBlocks (p : Program) (blocks : List Block) : Type 0 where
  pub sound : (b : Block) → Has blocks b → IsRun p b.owner b.first b.last
  pub rising : (j k : ℕ) (a b : Block) → j < k → slice_get blocks j ≡ Some a → slice_get blocks k ≡ Some b → StandsBefore a b
  pub covers : (owner i : ℕ) (q : Proc) → slice_get p.procs owner ≡ Some q → Reached p owner i → Holds blocks owner i
  pub there : (owner i : ℕ) → Reached p owner i → (q : Proc) → slice_get p.procs owner ≡ Some q → i < length q.steps
  pub owned : (b : Block) → Has blocks b → b.owner < length p.procs

-- ---- homes

-- a position that counts for a variable: 0 is the entry, and i + 1 the step i where paths come to it
pub data Counts (p : Program) (owner x : ℕ) : ℕ → Type 0 where
  AtEntry : (at : ℕ) → at ≡ 0 → LiveBefore p owner x 0 → Counts p owner x at
  AtStep : (i at : ℕ) → at ≡ i + 1 → Reached p owner i → Touches p owner i x → Counts p owner x at

-- the home law: two variables whose intervals have a position in common never have the same home register, and a
-- variable that is kept over a call has its slot
pub record HomeLaw (p : Program) (home : Homes) : Type 0 where
  pub start : (owner x : ℕ) → ℕ
  pub end : (owner x : ℕ) → ℕ
  pub holds : (owner x at : ℕ) → Counts p owner x at → (start owner x ≤ at) × (at ≤ end owner x)
  pub apart : (owner x y at k : ℕ) → start owner x ≤ at → at ≤ end owner x → start owner y ≤ at → at ≤ end owner y
      → home owner x ≡ Some k → home owner y ≡ Some k → x ≡ y
  pub kept : (owner at callee x : ℕ) (d : Option ℕ) (args : List Src) → Reached p owner at → step_at p owner at ≡ Some (Invoke d callee args)
      → LiveAfter p owner x at → d ≢ Some x → home owner x ≡ None
