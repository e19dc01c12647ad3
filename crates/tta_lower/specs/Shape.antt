-- What is known of register code that a program became.
use Rattle.std.specs.Prelude.{◌≡◌, ℕ, ◌+◌, ◌-◌, ◌≤◌, ◌==◌, Bool, true, false, List, [], ◌∷◌, ◌++◌, Some, None, slice_get}
use Rattle.std.specs.List.{list_any}
use Rattle.tta_lower.specs.Cited.{Src, Step, Proc, Program, step_count, step_at, RBlock, Rir}
use Rattle.tta_program.specs.declared.step.Step.TheVariants.{If, Invoke}
use Rattle.tta_lir.specs.declared.code.Place.TheVariants.{Frame}
use Rattle.tta_lir.specs.declared.code.RSrc.TheVariants as rsrc
use Rattle.tta_lir.specs.declared.code.RStep.TheVariants as rstep
use Rattle.tta_lir.specs.declared.code.Exit.TheVariants as exit
use Rattle.tta_lower.specs.Liveness.{LoweringInput, LiveBefore, LiveAfter, Block, Has, is_plain}
use Rattle.tta_lower.specs.Layout.{place, code_from, exit_for, keeps_ra, sets_from, value_slot, vars_of}

-- whether a step may go on to the next one without a transfer
abbrev pub may_fall : Step → Bool
may_fall (If rel a b to) = true
may_fall step = is_plain step

-- whether a step is a call
abbrev pub is_call : Step → Bool
is_call (Invoke d callee args) = true
is_call step = false

-- whether a home register stays after a block
abbrev pub is_kept : RBlock → ℕ → Bool
is_kept c k = list_any (λ l. l == k) c.live_out

-- for each block of register code, how many steps of the program stand in those before it
abbrev pub Counts : Type 0
Counts = ℕ → ℕ

module _ (p : Program) (known : LoweringInput) (r : Rir) (number : ℕ → ℕ → ℕ) (entry : ℕ → ℕ) (before : Counts) where
  -- the block that stands for some steps, of which the last is given
  pub record BlockFor (b : Block) (st : Step) : Type 0 where
    pub code : RBlock
    pub there : slice_get r.blocks (number b.owner b.first) ≡ Some code
    pub steps : code.steps ≡ code_from p known.home b.owner b.first (b.last + 1 - b.first)
    pub exit : code.exit ≡ exit_for p known.home number entry b.owner st
    pub kept : (x k : ℕ) → is_call st ≡ false → LiveAfter p b.owner x b.last → known.home b.owner x ≡ Some k → is_kept code k ≡ true

  -- the block after a call with a destination
  pub record ReturnFor (b : Block) (d callee : ℕ) : Type 0 where
    pub code : RBlock
    pub there : slice_get r.blocks (number b.owner b.first + 1) ≡ Some code
    pub steps : code.steps ≡ rstep.Copy (place p known.home b.owner d) (rsrc.At (Frame (value_slot p callee))) ∷ []
    pub exit : code.exit ≡ exit.Next
    pub kept : (x k : ℕ) → LiveAfter p b.owner x b.last → known.home b.owner x ≡ Some k → is_kept code k ≡ true
    pub onward : number b.owner (b.last + 1) ≡ number b.owner b.first + 2

  -- the entry block of a procedure
  pub record EntryFor (owner : ℕ) : Type 0 where
    pub code : RBlock
    pub there : slice_get r.blocks (entry owner) ≡ Some code
    pub steps : code.steps ≡ keeps_ra p known.home owner ++ sets_from p known.home (known.first owner) owner 0 (vars_of p owner)
    pub exit : code.exit ≡ exit.Next
    pub kept : (x k : ℕ) → LiveBefore p owner x 0 → known.home owner x ≡ Some k → is_kept code k ≡ true
    pub onward : number owner 0 ≡ entry owner + 1

  -- where a run begins: at main's entry block, or at its first block, if no variable is live there
  pub data StartsAt : Type 0 where
    AtEntry : entry p.main ≡ 0 → EntryFor p.main → StartsAt
    AtFirst : number p.main 0 ≡ 0 → ((x : ℕ) → LiveBefore p p.main x 0 → ⊥) → StartsAt

  -- Each part of the program has its block; a block is followed by what comes next in the program.
  pub record IsLowered : Type 0 where
    pub block : (b : Block) → Has known.blocks b → (st : Step) → step_at p b.owner b.last ≡ Some st → BlockFor b st
    pub same : (b : Block) → Has known.blocks b → number b.owner b.last ≡ number b.owner b.first
    pub falls_through : (b : Block) → Has known.blocks b → (st : Step) → step_at p b.owner b.last ≡ Some st → may_fall st ≡ true
        → number b.owner (b.last + 1) ≡ number b.owner b.first + 1
    pub called : (b : Block) → Has known.blocks b → (callee : ℕ) (args : List Src) → step_at p b.owner b.last ≡ Some (Invoke None callee args)
        → number b.owner (b.last + 1) ≡ number b.owner b.first + 1
    pub returns : (b : Block) → Has known.blocks b → (d callee : ℕ) (args : List Src) → step_at p b.owner b.last ≡ Some (Invoke (Some d) callee args)
        → ReturnFor b d callee
    pub entries : (owner : ℕ) (q : Proc) → slice_get p.procs owner ≡ Some q → (owner ≡ p.main → ⊥) → EntryFor owner
    pub start : StartsAt
    pub live_at_entry : (owner x : ℕ) → known.first owner x ≡ true → LiveBefore p owner x 0
    pub all_live : (owner x : ℕ) → LiveBefore p owner x 0 → known.first owner x ≡ true
    pub counts : (b : Block) → Has known.blocks b → before (number b.owner b.first) + (b.last + 1 - b.first) ≤ before (number b.owner b.first + 1)
    pub rising : (k : ℕ) → before k ≤ before (k + 1)
    pub all_counted : (k : ℕ) → before k ≤ step_count p
