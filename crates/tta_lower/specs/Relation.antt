-- How a state of a program's run and a state of its register code's run stand to each other where a block begins.
use Rattle.std.specs.Prelude.{◌≡◌, ◌≢◌, ℕ, ◌+◌, ◌<◌, ◌≤◌, true, List, [], ◌∷◌, Option, Some, ⊤, length, slice_get, slice_index}
use Rattle.tta_lower.specs.Cited.{Src, Proc, Program, Outcome, step_at, Rir, Kept, found, plain, word}
use Rattle.tta_program.specs.declared.step.Step.TheVariants.{Invoke}
use Rattle.tta_program.specs.Sequential as program
use Rattle.tta_program.specs.Sequential.{Frame}
use Rattle.tta_lir.specs.Meaning.{State, Return}
use Rattle.tta_lower.specs.Liveness.{LoweringInput, LiveBefore, LiveAfter, Block, Has, Homes}
use Rattle.tta_lower.specs.Layout.{vars_of, params_of, back_slot, value_slot, var_slot, InFrame, place}
use Rattle.tta_lower.specs.Shape.{Counts, EntryFor}

-- ---- states by their parts

-- a program's state
abbrev pub running : (steps : ℕ) → List Frame → (memory input output : List ℕ) → Outcome → program.State
running k stack memory input output outcome = record {
  stack = stack;
  memory = memory;
  rest = input;
  output = output;
  steps = k;
  outcome = outcome;
}

-- the same with one step more
abbrev pub one_more : program.State → program.State
one_more s = record s { steps = s.steps + 1 }

-- a state of register code that has read nothing unset
abbrev pub going : ℕ → List (ℕ × ℕ) → List (ℕ × Kept) → Option ℕ → (memory input output : List ℕ) → Outcome → State
going at regs frame ra memory input output outcome = record {
  at = at;
  regs = regs;
  frame = frame;
  ra = ra;
  memory = memory;
  rest = input;
  output = output;
  outcome = outcome;
  sound = true;
}

-- ---- variables

module _ (p : Program) (home : Homes) where
  -- each variable that is live before a step has its word in its home
  abbrev pub HeldBefore : Frame → List (ℕ × ℕ) → List (ℕ × Kept) → ℕ → Type 0
  HeldBefore f regs frame at =
      (x : ℕ) → LiveBefore p f.proc x at → word regs frame (place p home f.proc x) ≡ Some (slice_index f.vars x)

  -- each variable that is live after a step
  abbrev pub HeldAfter : Frame → List (ℕ × ℕ) → List (ℕ × Kept) → ℕ → Type 0
  HeldAfter f regs frame at =
      (x : ℕ) → LiveAfter p f.proc x at → word regs frame (place p home f.proc x) ≡ Some (slice_index f.vars x)

-- each variable that is live after a call and is not its destination has its word in its slot
abbrev pub Saved : Program → Frame → List (ℕ × Kept) → ℕ → Option ℕ → Type 0
Saved p f frame at d = (x : ℕ) → LiveAfter p f.proc x at → d ≢ Some x → plain (found (var_slot p f.proc x) frame) ≡ Some (slice_index f.vars x)

-- ---- calls that are under way

module _ (p : Program) (blocks : List Block) (number : ℕ → ℕ → ℕ) where
  -- a call of the procedure `callee` is under way here: it ends a block, and the slots hold what is needed after it
  pub record IsCaller (frame : List (ℕ × Kept)) (callee : ℕ) (f : Frame) : Type 0 where
    pub block : Block
    pub has : Has blocks block
    pub owned : block.owner ≡ f.proc
    pub last : block.last ≡ f.at
    pub d : Option ℕ
    pub args : List Src
    pub call : step_at p f.proc f.at ≡ Some (Invoke d callee args)
    pub size : length f.vars ≡ vars_of p f.proc
    pub saved : Saved p f frame f.at d

  -- the number of the block after a call
  abbrev pub next_block : Frame → ℕ
  next_block f = number f.proc f.at + 1

  -- the slot for the return address of a procedure keeps the block after its caller's call; main has none
  abbrev pub KeepsBack : List (ℕ × Kept) → ℕ → List Frame → Type 0
  KeepsBack frame owner [] = ⊤
  KeepsBack frame owner (f ∷ rest) = found (back_slot p owner) frame ≡ Some (Return (next_block f))

  -- the same for the return address itself
  abbrev pub HasBack : Option ℕ → List Frame → Type 0
  HasBack ra [] = ⊤
  HasBack ra (f ∷ rest) = ra ≡ Some (next_block f)

  -- the calls below a procedure: each called the one above it, and the last is main's
  abbrev pub Callers : List (ℕ × Kept) → ℕ → List Frame → Type 0
  Callers frame above [] = above ≡ p.main
  Callers frame above (f ∷ rest) = IsCaller frame above f × KeepsBack frame f.proc rest × Callers frame f.proc rest

-- ---- where a block begins

module _ (p : Program) (known : LoweringInput) (r : Rir) (number : ℕ → ℕ → ℕ) (entry : ℕ → ℕ) (before : Counts) where
  -- at the block that stands for the steps of the program that come next
  pub record AtBlock (f : Frame) (rest : List Frame) (at : ℕ) (regs : List (ℕ × ℕ)) (frame : List (ℕ × Kept)) : Type 0 where
    pub block : Block
    pub has : Has known.blocks block
    pub owned : block.owner ≡ f.proc
    pub first : block.first ≡ f.at
    pub here : at ≡ number f.proc f.at
    pub size : length f.vars ≡ vars_of p f.proc
    pub held : HeldBefore p known.home f regs frame f.at
    pub back : KeepsBack p known.blocks number frame f.proc rest
    pub callers : Callers p known.blocks number frame f.proc rest

  -- at the entry block of the procedure that was called: the parameters are in their slots, all other variables are 0
  pub record AtEntry (f : Frame) (rest : List Frame) (at : ℕ) (frame : List (ℕ × Kept)) (ra : Option ℕ) : Type 0 where
    pub entry_block : EntryFor p known r number entry before f.proc
    pub proc : Proc
    pub is : slice_get p.procs f.proc ≡ Some proc
    pub first : f.at ≡ 0
    pub here : at ≡ entry f.proc
    pub size : length f.vars ≡ vars_of p f.proc
    pub params : (x : ℕ) → x < params_of p f.proc → plain (found (var_slot p f.proc x) frame) ≡ Some (slice_index f.vars x)
    pub zeros : (x : ℕ) → params_of p f.proc ≤ x → slice_index f.vars x ≡ 0
    pub address : HasBack p known.blocks number ra rest
    pub callers : Callers p known.blocks number frame f.proc rest

  -- at the return block after a call: the program has assigned the returned value, which the code finds in its slot
  pub record AtReturn (f : Frame) (rest : List Frame) (at : ℕ) (frame : List (ℕ × Kept)) : Type 0 where
    pub block : Block
    pub has : Has known.blocks block
    pub owned : block.owner ≡ f.proc
    pub last : block.last + 1 ≡ f.at
    pub d : ℕ
    pub callee : ℕ
    pub args : List Src
    pub call : step_at p f.proc block.last ≡ Some (Invoke (Some d) callee args)
    pub here : at ≡ number f.proc block.first + 1
    pub size : length f.vars ≡ vars_of p f.proc
    pub saved : Saved p f frame block.last (Some d)
    pub value : plain (found (value_slot p callee) frame) ≡ Some (slice_index f.vars d)
    pub back : KeepsBack p known.blocks number frame f.proc rest
    pub callers : Callers p known.blocks number frame f.proc rest

  -- one of the three
  pub data Stands (f : Frame) (rest : List Frame) (at : ℕ) (regs : List (ℕ × ℕ)) (frame : List (ℕ × Kept)) (ra : Option ℕ) : Type 0 where
    BlockNext : AtBlock f rest at regs frame → Stands f rest at regs frame ra
    EntryNext : AtEntry f rest at frame ra → Stands f rest at regs frame ra
    ReturnNext : AtReturn f rest at frame → Stands f rest at regs frame ra

-- no slot has changed but those of a procedure's variables
abbrev pub Untouched : Program → ℕ → (old new : List (ℕ × Kept)) → Type 0
Untouched p owner old new =
    (slot : ℕ) → ((x : ℕ) → x < vars_of p owner → slot ≢ var_slot p owner x) → found slot new ≡ found slot old

-- no slot has changed but those of a procedure
abbrev pub UntouchedFrame : Program → ℕ → (old new : List (ℕ × Kept)) → Type 0
UntouchedFrame p owner old new = (slot : ℕ) → (InFrame p owner slot → ⊥) → found slot new ≡ found slot old
