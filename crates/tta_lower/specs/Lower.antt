-- The register code of a program, as a list of its parts.
use Rattle.std.specs.Prelude.{◌≡◌, ℕ, zero, suc, ◌+◌, ◌-◌, ◌<◌, ◌==◌, nat_lt, Bool, true, false, not, ◌&&◌, ◌||◌, if◌then◌else◌, List, [], ◌∷◌, ◌++◌, Option, Some, ⊤, length, map, filter}
use Rattle.std.specs.Option.{option_map_or}
use Rattle.std.specs.List.{flat_map, list_any}
use Rattle.tta_lower.specs.Cited.{Step, Program, step_at, RBlock, Rir}
use Rattle.tta_program.specs.declared.step.Step.TheVariants.{Invoke}
use Rattle.tta_lir.specs.declared.code.Place.TheVariants.{Frame}
use Rattle.tta_lir.specs.declared.code.RSrc.TheVariants as rsrc
use Rattle.tta_lir.specs.declared.code.RStep.TheVariants as rstep
use Rattle.tta_lir.specs.declared.code.Exit.TheVariants as exit
use Rattle.tta_lower.specs.Liveness.{Block, Has, LoweringInput, LiveBefore, LiveAfter}
pub use Rattle.tta_lower.specs.declared.part.Part.{Part}
pub use Rattle.tta_lower.specs.declared.part.Part.TheVariants.{Entry, Steps, Returned}
use Rattle.tta_lower.specs.Layout.{vars_of, value_slot, place, code_from, exit_for, keeps_ra, sets_from}

-- the procedure of a part
abbrev pub owner_of : Part → ℕ
owner_of (Entry owner) = owner
owner_of (Steps b) = b.owner
owner_of (Returned b d callee) = b.owner

-- ---- numbers

-- the numbers from one on, so many
abbrev pub numbers : (from count : ℕ) → List ℕ
numbers from zero = []
numbers from (suc n) = from ∷ numbers (from + 1) n

-- the procedures in the order of their code: main first, the others as in the text
abbrev pub code_order : Program → List ℕ
code_order p = p.main ∷ filter (λ o. not (o == p.main)) (numbers 0 (length p.procs))

-- the blocks of a procedure
abbrev pub spans_of : List Block → ℕ → List Block
spans_of blocks owner = filter (λ b. b.owner == owner) blocks

-- ---- parts

-- the part after a step, where that is a call with a destination
abbrev pub return_after : Block → Option Step → List Part
return_after b (Some (Invoke (Some d) callee args)) = Returned b d callee ∷ []
return_after b step = []

-- the parts of a block
abbrev pub span_parts : Program → Block → List Part
span_parts p b = Steps b ∷ return_after b (step_at p b.owner b.last)

module _ (p : Program) (blocks : List Block) (live_first : (owner x : ℕ) → Bool) where
  -- whether a procedure has an entry block: main has one only where a variable is live there
  abbrev pub has_entry : ℕ → Bool
  has_entry owner = not (owner == p.main) || list_any (live_first owner) (numbers 0 (vars_of p owner))

  -- the entry part of a procedure, if it has one
  abbrev pub entry_parts : ℕ → List Part
  entry_parts owner = if has_entry owner then Entry owner ∷ [] else []

  -- the parts of a procedure
  abbrev pub proc_parts : ℕ → List Part
  proc_parts owner = entry_parts owner ++ flat_map (span_parts p) (spans_of blocks owner)

  -- the parts of a program
  abbrev pub parts : List Part
  parts = flat_map proc_parts (code_order p)

  -- ---- the number of a part: how many come before it

  -- the procedures before one
  abbrev pub procs_before : ℕ → List ℕ → List ℕ
  procs_before owner [] = []
  procs_before owner (o ∷ os) = if o == owner then [] else o ∷ procs_before owner os

  -- the blocks that end before a step
  abbrev pub spans_before : ℕ → List Block → List Block
  spans_before at [] = []
  spans_before at (b ∷ bs) = if nat_lt b.last at then b ∷ spans_before at bs else []

  -- the number of a procedure's entry block
  abbrev pub entry_number : ℕ → ℕ
  entry_number owner = length (flat_map proc_parts (procs_before owner (code_order p)))

  -- the number of the block that holds a step
  abbrev pub number_of : (owner at : ℕ) → ℕ
  number_of owner at = entry_number owner + length (entry_parts owner) + length (flat_map (span_parts p) (spans_before at (spans_of blocks owner)))

-- ---- blocks of register code

module _ (p : Program) (known : LoweringInput) (homes : ℕ) where
  -- whether a variable that passes a test has a home register
  abbrev pub is_home_of : (owner : ℕ) → (test : ℕ → Bool) → ℕ → ℕ → Bool
  is_home_of owner test k x = test x && option_map_or (λ h. h == k) (known.home owner x) false

  -- the home registers of the variables that pass a test, rising
  abbrev pub homes_of : (owner : ℕ) → (test : ℕ → Bool) → List ℕ
  homes_of owner test = filter (λ k. list_any (is_home_of owner test k) (numbers 0 (vars_of p owner))) (numbers 0 homes)

  -- the home registers that stay after some steps; none stays after a call
  abbrev pub live_past : Block → Step → List ℕ
  live_past b (Invoke d callee args) = []
  live_past b step = homes_of b.owner (known.after b.owner b.last)

  -- the block of a part
  abbrev pub block_of : Part → RBlock
  block_of (Entry owner) = record {
    steps = keeps_ra p known.home owner ++ sets_from p known.home (known.first owner) owner 0 (vars_of p owner);
    exit = exit.Next;
    live_out = homes_of owner (known.first owner);
  }
  block_of (Steps b) = record {
    steps = code_from p known.home b.owner b.first (b.last + 1 - b.first);
    exit = option_map_or (exit_for p known.home (number_of p known.blocks known.first) (entry_number p known.blocks known.first) b.owner) (step_at p b.owner b.last) exit.Halt;
    live_out = option_map_or (live_past b) (step_at p b.owner b.last) [];
  }
  block_of (Returned b d callee) = record {
    steps = rstep.Copy (place p known.home b.owner d) (rsrc.At (Frame (value_slot p callee))) ∷ [];
    exit = exit.Next;
    live_out = homes_of b.owner (known.after b.owner b.last);
  }

  -- the register code of the program
  abbrev pub lowered : Rir
  lowered = record { blocks = map block_of (parts p known.blocks known.first) }

-- how many steps of the program a part stands for
abbrev pub steps_in : Part → ℕ
steps_in (Steps b) = b.last + 1 - b.first
steps_in part = 0

-- ---- what the order of the blocks is

-- a block of some ends before each of the others begins
abbrev pub EndsBefore : Block → List Block → Type 0
EndsBefore b [] = ⊤
EndsBefore b (c ∷ cs) = (b.last < c.first) × EndsBefore b cs

-- the blocks of a procedure stand in the order of their steps
abbrev pub InOrder : List Block → Type 0
InOrder [] = ⊤
InOrder (b ∷ bs) = EndsBefore b bs × InOrder bs

-- ---- what is known beside the facts on blocks and homes

-- The blocks of each procedure stand in order, the answers on liveness are right at each entry and at the end of each
-- block, and the home registers are so many.
pub record Answers (p : Program) (known : LoweringInput) (homes : ℕ) : Type 0 where
  pub order : (owner : ℕ) → InOrder (spans_of known.blocks owner)
  pub first_only : (owner x : ℕ) → known.first owner x ≡ true → LiveBefore p owner x 0
  pub first_all : (owner x : ℕ) → LiveBefore p owner x 0 → known.first owner x ≡ true
  pub after_only : (b : Block) → Has known.blocks b → (x : ℕ) → known.after b.owner b.last x ≡ true → LiveAfter p b.owner x b.last
  pub after_all : (b : Block) → Has known.blocks b → (x : ℕ) → LiveAfter p b.owner x b.last → known.after b.owner b.last x ≡ true
  pub few : (owner x k : ℕ) → known.home owner x ≡ Some k → k < homes
