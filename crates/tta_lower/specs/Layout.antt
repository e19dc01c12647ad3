-- Where the frame space keeps what, and what the blocks of a program become.
use Rattle.std.specs.Prelude.{ℕ, zero, suc, ◌+◌, ◌<◌, ◌≤◌, ◌==◌, nat_lt, Bool, ◌&&◌, if◌then◌else◌, List, [], ◌∷◌, ◌++◌, Option, Some, None, is_none, slice_get}
use Rattle.std.specs.Option.{option_map_or}
use Rattle.tta_lower.specs.Cited.{Src, Var, Step, Load, Take, Store, When, End, Proc, Program, step_at, Place, RSrc, RStep, Exit}
use Rattle.tta_program.specs.declared.operand.Src.TheVariants.{Word}
use Rattle.tta_program.specs.declared.step.Step.TheVariants.{Copy, Apply, Put, If, Goto, Invoke, Return, Halt}
use Rattle.tta_lir.specs.declared.code.Place.TheVariants.{Reg, Frame}
use Rattle.tta_lir.specs.declared.code.RSrc.TheVariants as rsrc
use Rattle.tta_lir.specs.declared.code.RStep.TheVariants as rstep
use Rattle.tta_lir.specs.declared.code.Exit.TheVariants as exit
use Rattle.tta_lower.specs.Liveness.{Homes}

-- ---- frames

-- how many variables a procedure has
abbrev pub vars_of : Program → ℕ → ℕ
vars_of p owner = option_map_or (λ q. q.vars) (slice_get p.procs owner) 0

-- how many parameters a procedure has
abbrev pub params_of : Program → ℕ → ℕ
params_of p owner = option_map_or (λ q. q.params) (slice_get p.procs owner) 0

-- the slots of a procedure's own: for the return address and the returned value, but for main
abbrev pub own : Program → ℕ → ℕ
own p owner = if owner == p.main then 0 else 2

-- how many slots come before those of a procedure, where the procedures are counted from a number on
abbrev pub slots_before : Program → (from count : ℕ) → List Proc → ℕ
slots_before p from zero qs = 0
slots_before p from (suc n) [] = 0
slots_before p from (suc n) (q ∷ qs) = own p from + q.vars + slots_before p (from + 1) n qs

-- the first slot of a procedure
unfoldable pub base : Program → ℕ → ℕ
base p owner = slots_before p 0 owner p.procs

-- the slot for the return address
abbrev pub back_slot : Program → ℕ → ℕ
back_slot p owner = base p owner

-- the slot for the returned value
abbrev pub value_slot : Program → ℕ → ℕ
value_slot p owner = base p owner + 1

-- the slot of a variable
abbrev pub var_slot : Program → (owner x : ℕ) → ℕ
var_slot p owner x = base p owner + own p owner + x

-- how many slots a procedure has
abbrev pub size : Program → ℕ → ℕ
size p owner = own p owner + vars_of p owner

-- a slot of a procedure
abbrev pub InFrame : Program → ℕ → ℕ → Type 0
InFrame p owner slot = (base p owner ≤ slot) × (slot < base p owner + size p owner)

-- ---- operands

module _ (p : Program) (home : Homes) where
  -- where a variable is kept, by its home register
  abbrev pub place_by : (owner x : ℕ) → Option ℕ → Place
  place_by owner x (Some k) = Reg k
  place_by owner x None = Frame (var_slot p owner x)

  -- where a variable is kept
  abbrev pub place : (owner x : ℕ) → Place
  place owner x = place_by owner x (home owner x)

  -- what an operand becomes
  abbrev pub source : ℕ → Src → RSrc
  source owner (Var x) = rsrc.At (place owner x)
  source owner (Word w) = rsrc.Word w

  -- ---- steps

  -- the arguments of a call go to the callee's slots, from its variable x on
  abbrev pub passes : (owner callee x : ℕ) → List Src → List RStep
  passes owner callee x [] = []
  passes owner callee x (s ∷ ss) = rstep.Copy (Frame (var_slot p callee x)) (source owner s) ∷ passes owner callee (x + 1) ss

  -- the returned value goes to its slot; main returns none
  abbrev pub gives : ℕ → RSrc → List RStep
  gives owner s = if owner == p.main then [] else rstep.Copy (Frame (value_slot p owner)) s ∷ []

  -- what a step becomes, but for the exit
  abbrev pub steps_for : ℕ → Step → List RStep
  steps_for owner (Copy d s) = rstep.Copy (place owner d) (source owner s) ∷ []
  steps_for owner (Apply d op a b) = rstep.Apply (place owner d) op (source owner a) (source owner b) ∷ []
  steps_for owner (Load d a) = rstep.Load (place owner d) (source owner a) ∷ []
  steps_for owner (Take d) = rstep.Take (place owner d) ∷ []
  steps_for owner (Store a v) = rstep.Store (source owner a) (source owner v) ∷ []
  steps_for owner (Put v) = rstep.Put (source owner v) ∷ []
  steps_for owner (If rel a b to) = []
  steps_for owner (Goto to) = []
  steps_for owner (When rel a b d s) = rstep.When rel (source owner a) (source owner b) (place owner d) (source owner s) ∷ []
  steps_for owner (Invoke d callee args) = passes owner callee 0 args
  steps_for owner (Return (Some s)) = gives owner (source owner s)
  steps_for owner (Return None) = gives owner (rsrc.Word 0)
  steps_for owner Halt = []
  steps_for owner End = gives owner (rsrc.Word 0)

  -- what so many steps of a procedure become, from one on
  abbrev pub code_from : (owner at count : ℕ) → List RStep
  code_from owner at zero = []
  code_from owner at (suc n) = option_map_or (steps_for owner) (step_at p owner at) [] ++ code_from owner (at + 1) n

  -- ---- exits, with the numbers of the blocks that hold a step, and of the entry blocks

  module _ (number : ℕ → ℕ → ℕ) (entry : ℕ → ℕ) where
    -- how a block ends whose last step returns
    abbrev pub back : ℕ → Exit
    back owner = if owner == p.main then exit.Halt else exit.Back (back_slot p owner)

    -- how a block with a last step ends
    abbrev pub exit_for : ℕ → Step → Exit
    exit_for owner (If rel a b to) = exit.If rel (source owner a) (source owner b) (number owner to)
    exit_for owner (Goto to) = exit.Goto (number owner to)
    exit_for owner (Invoke d callee args) = exit.Invoke (entry callee)
    exit_for owner (Return s) = back owner
    exit_for owner Halt = exit.Halt
    exit_for owner End = back owner
    exit_for owner step = exit.Next

  -- ---- entry blocks

  -- the return address is kept, but in main
  abbrev pub keeps_ra : ℕ → List RStep
  keeps_ra owner = if owner == p.main then [] else rstep.SaveRa (back_slot p owner) ∷ []

  -- a parameter comes from its slot, and any other variable is 0 at first
  abbrev pub first_value : (owner x : ℕ) → RSrc
  first_value owner x = if nat_lt x (params_of p owner) then rsrc.At (Frame (var_slot p owner x)) else rsrc.Word 0

  -- what sets a variable; a parameter that has its slot is there already
  abbrev pub sets : (owner x : ℕ) → List RStep
  sets owner x =
      if nat_lt x (params_of p owner) && is_none (home owner x) then [] else rstep.Copy (place owner x) (first_value owner x) ∷ []

  -- what sets those of some variables that are live, from one on
  abbrev pub sets_from : (live : ℕ → Bool) (owner x count : ℕ) → List RStep
  sets_from live owner x zero = []
  sets_from live owner x (suc n) = (if live x then sets owner x else []) ++ sets_from live owner (x + 1) n
