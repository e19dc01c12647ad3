-- What is known of the steps of a program, of its blocks, of liveness and of homes.
use Rattle.std.specs.Prelude.{◌≡◌, ◌≢◌, ℕ, ◌+◌, ◌<◌, ◌≤◌, ◌==◌, Bool, true, false, ◌||◌, List, Option, Some, None, slice_get}
use Rattle.std.specs.List.{list_any}
use Rattle.tta_lower.specs.Cited.{Src, Var, Step, Load, Take, Store, When, End, Proc, Program, step_at}
use Rattle.tta_program.specs.declared.operand.Src.TheVariants.{Word}
use Rattle.tta_program.specs.declared.step.Step.TheVariants.{Copy, Apply, Put, If, Goto, Invoke, Return, Halt}
pub use Rattle.tta_flow.specs.declared.flow.Block.{Block}

-- ---- steps

-- whether an operand is a variable
abbrev pub is_var : ℕ → Src → Bool
is_var x (Var y) = y == x
is_var x (Word w) = false

-- whether a step reads a variable; a `when` reads its destination
abbrev pub reads : Step → ℕ → Bool
reads (Copy d s) x = is_var x s
reads (Apply d op a b) x = is_var x a || is_var x b
reads (Load d a) x = is_var x a
reads (Take d) x = false
reads (Store a v) x = is_var x a || is_var x v
reads (Put v) x = is_var x v
reads (If rel a b to) x = is_var x a || is_var x b
reads (Goto to) x = false
reads (When rel a b d s) x = is_var x a || (is_var x b || (d == x || is_var x s))
reads (Invoke d callee args) x = list_any (is_var x) args
reads (Return (Some s)) x = is_var x s
reads (Return None) x = false
reads Halt x = false
reads End x = false

-- the variable that a step assigns, if it assigns one
abbrev pub assigned : Step → Option ℕ
assigned (Copy d s) = Some d
assigned (Apply d op a b) = Some d
assigned (Load d a) = Some d
assigned (Take d) = Some d
assigned (Store a v) = None
assigned (Put v) = None
assigned (If rel a b to) = None
assigned (Goto to) = None
assigned (When rel a b d s) = Some d
assigned (Invoke d callee args) = d
assigned (Return s) = None
assigned Halt = None
assigned End = None

-- whether a step leads to another of its procedure; a call leads to the step after it
abbrev pub leads : Step → (at to : ℕ) → Bool
leads (Copy d s) at to = at + 1 == to
leads (Apply d op a b) at to = at + 1 == to
leads (Load d a) at to = at + 1 == to
leads (Take d) at to = at + 1 == to
leads (Store a v) at to = at + 1 == to
leads (Put v) at to = at + 1 == to
leads (If rel a b target) at to = target == to || at + 1 == to
leads (Goto target) at to = target == to
leads (When rel a b d s) at to = at + 1 == to
leads (Invoke d callee args) at to = at + 1 == to
leads (Return s) at to = false
leads Halt at to = false
leads End at to = false

-- whether a step only goes on to the next one
abbrev pub is_plain : Step → Bool
is_plain (Copy d s) = true
is_plain (Apply d op a b) = true
is_plain (Load d a) = true
is_plain (Take d) = true
is_plain (Store a v) = true
is_plain (Put v) = true
is_plain (When rel a b d s) = true
is_plain step = false

-- ---- liveness

-- a path of steps starts before a step and ends at one that reads the variable, and no earlier one assigns it
pub data LiveBefore (p : Program) (owner x : ℕ) : ℕ → Type 0 where
  Reads : (at : ℕ) (st : Step) → step_at p owner at ≡ Some st → reads st x ≡ true → LiveBefore p owner x at
  Leads : (at to : ℕ) (st : Step) → step_at p owner at ≡ Some st → assigned st ≢ Some x → leads st at to ≡ true
      → LiveBefore p owner x to → LiveBefore p owner x at

-- a variable is live before a step that follows
pub data LiveAfter (p : Program) (owner x at : ℕ) : Type 0 where
  After : (to : ℕ) (st : Step) → step_at p owner at ≡ Some st → leads st at to ≡ true → LiveBefore p owner x to → LiveAfter p owner x at

-- a path leads from the procedure's first step to a step
pub data Reached (p : Program) (owner : ℕ) : ℕ → Type 0 where
  First : (at : ℕ) → at ≡ 0 → Reached p owner at
  Then : (from at : ℕ) (st : Step) → Reached p owner from → step_at p owner from ≡ Some st → leads st from at ≡ true → Reached p owner at

-- ---- blocks

-- a block is one of some blocks
abbrev pub Has : List Block → Block → Type 0
Has blocks b = (k : ℕ) × (slice_get blocks k ≡ Some b)

-- the block of a procedure that begins with a step
pub record Begins (blocks : List Block) (owner first : ℕ) : Type 0 where
  pub block : Block
  pub has : Has blocks block
  pub owned : block.owner ≡ owner
  pub from : block.first ≡ first

-- a step of a block that is not its last
pub record PlainAt (p : Program) (owner at : ℕ) : Type 0 where
  pub st : Step
  pub there : step_at p owner at ≡ Some st
  pub plain : is_plain st ≡ true

-- a step that is there
pub record StepThere (p : Program) (owner at : ℕ) : Type 0 where
  pub st : Step
  pub there : step_at p owner at ≡ Some st

-- What the simulation needs of blocks: only the last step of a block does more than go on; a block begins at each
-- procedure's first step and at each step to which a block's last one leads; and all their steps are reached.
pub record IsFlow (p : Program) (blocks : List Block) : Type 0 where
  pub rises : (b : Block) → Has blocks b → b.first ≤ b.last
  pub plain : (b : Block) → Has blocks b → (i : ℕ) → b.first ≤ i → i < b.last → PlainAt p b.owner i
  pub last : (b : Block) → Has blocks b → StepThere p b.owner b.last
  pub entry : (owner : ℕ) (q : Proc) → slice_get p.procs owner ≡ Some q → Begins blocks owner 0
  pub onward : (b : Block) → Has blocks b → (st : Step) (to : ℕ) → step_at p b.owner b.last ≡ Some st → leads st b.last to ≡ true
      → Begins blocks b.owner to
  pub reached : (b : Block) → Has blocks b → (i : ℕ) → b.first ≤ i → i ≤ b.last → Reached p b.owner i

-- ---- homes

-- a variable is read or assigned by a step, or live before or after it
pub data Touches (p : Program) (owner at x : ℕ) : Type 0 where
  ByRead : (st : Step) → step_at p owner at ≡ Some st → reads st x ≡ true → Touches p owner at x
  ByAssigned : (st : Step) → step_at p owner at ≡ Some st → assigned st ≡ Some x → Touches p owner at x
  ByBefore : LiveBefore p owner x at → Touches p owner at x
  ByAfter : LiveAfter p owner x at → Touches p owner at x

-- a variable's home: a home register, or where there is none its own slot
abbrev pub Homes : Type 0
Homes = (owner x : ℕ) → Option ℕ

-- What the simulation needs of homes: two variables that one reached step touches, or that are both live at the entry,
-- never share a register; and a variable that is live after a reached call and not its destination has its slot.
pub record IsHomes (p : Program) (home : Homes) : Type 0 where
  pub apart : (owner at x y k : ℕ) → Reached p owner at → Touches p owner at x → Touches p owner at y
      → home owner x ≡ Some k → home owner y ≡ Some k → x ≡ y
  pub entry : (owner x y k : ℕ) → LiveBefore p owner x 0 → LiveBefore p owner y 0 → home owner x ≡ Some k → home owner y ≡ Some k → x ≡ y
  pub saved : (owner at callee x : ℕ) (d : Option ℕ) (args : List Src) → Reached p owner at → step_at p owner at ≡ Some (Invoke d callee args)
      → LiveAfter p owner x at → d ≢ Some x → home owner x ≡ None

-- ---- all of it

-- what lowering is told of a program
pub record LoweringInput : Type 0 where
  -- its blocks in the order of its text
  pub blocks : List Block
  -- the home of each of its variables
  pub home : Homes
  -- whether a variable is live at a procedure's entry
  pub first : (owner x : ℕ) → Bool
  -- whether a variable is live after a step
  pub after : (owner at x : ℕ) → Bool
