-- How much the parts of a program ask for: slots, operations and assignments.
use Rattle.std.specs.Prelude.{ℕ, zero, suc, ◌+◌, ◌-◌, ◌*◌, ◌==◌, nat_lt, Bool, ◌||◌, if◌then◌else◌, Some, None, is_none, length}
use Rattle.std.specs.Option.{option_map_or}
use Rattle.std.specs.List.{sum_by}
use Rattle.tta_lower.specs.Cited.{Units, Src, Var, Step, Load, Take, Store, When, End, Program, step_at, Need, Loads, Stores, Puts, Takes, counts_need, counts_test}
use Rattle.tta_program.specs.declared.operand.Src.TheVariants.{Word}
use Rattle.tta_program.specs.declared.step.Step.TheVariants.{Copy, Apply, Put, If, Goto, Invoke, Return, Halt}
use Rattle.tta_lir.specs.Counts.{Named}
use Rattle.tta_lower.specs.Liveness.{Homes}
use Rattle.tta_lower.specs.Layout.{params_of, vars_of}
use Rattle.tta_lower.specs.Lower.{Part, Entry, Steps, Returned}

-- ---- the frame traffic of parts

module _ (p : Program) (home : Homes) where
  -- whether a variable has its slot
  abbrev pub in_slot : (owner x : ℕ) → ℕ
  in_slot owner x = if is_none (home owner x) then 1 else 0

  -- an operand: one where it is a variable that has its slot
  abbrev pub slot_src : ℕ → Src → ℕ
  slot_src owner (Var x) = in_slot owner x
  slot_src owner (Word w) = 0

  -- a `return` or `end` outside main
  abbrev pub leaving : ℕ → ℕ
  leaving owner = if owner == p.main then 0 else 2

  -- the slots that a step names
  abbrev pub traffic_step : ℕ → Step → ℕ
  traffic_step owner (Copy d s) = in_slot owner d + slot_src owner s
  traffic_step owner (Apply d op a b) = in_slot owner d + slot_src owner a + slot_src owner b
  traffic_step owner (Load d a) = in_slot owner d + slot_src owner a
  traffic_step owner (Take d) = in_slot owner d
  traffic_step owner (Store a v) = slot_src owner a + slot_src owner v
  traffic_step owner (Put v) = slot_src owner v
  traffic_step owner (If rel a b to) = slot_src owner a + slot_src owner b
  traffic_step owner (Goto to) = 0
  traffic_step owner (When rel a b d s) = slot_src owner a + slot_src owner b + 2 * in_slot owner d + slot_src owner s
  traffic_step owner (Invoke d callee args) = sum_by (slot_src owner) args + length args
  traffic_step owner (Return (Some s)) = slot_src owner s + leaving owner
  traffic_step owner (Return None) = leaving owner
  traffic_step owner Halt = 0
  traffic_step owner End = leaving owner

  -- a sum over so many steps of a procedure, from one on
  abbrev pub over_steps : (Step → ℕ) → (owner at count : ℕ) → ℕ
  over_steps f owner at zero = 0
  over_steps f owner at (suc n) = option_map_or f (step_at p owner at) 0 + over_steps f owner (at + 1) n

  -- a sum over the variables that are live at an entry, so many from one on
  abbrev pub over_live : (live : ℕ → Bool) → (ℕ → ℕ) → (x count : ℕ) → ℕ
  over_live live f x zero = 0
  over_live live f x (suc n) = (if live x then f x else 0) + over_live live f (x + 1) n

  -- a variable at an entry: one where it has its slot or is a parameter
  abbrev pub fetched : (owner x : ℕ) → ℕ
  fetched owner x = if nat_lt x (params_of p owner) || is_none (home owner x) then 1 else 0

  module _ (live_first : (owner x : ℕ) → Bool) where
    -- the slots that a part names
    abbrev pub traffic : Part → ℕ
    traffic (Entry owner) = (if owner == p.main then 0 else 1) + over_live (live_first owner) (fetched owner) 0 (vars_of p owner)
    traffic (Steps b) = over_steps (traffic_step b.owner) b.owner b.first (b.last + 1 - b.first)
    traffic (Returned b d callee) = 2

-- ---- operations

module _ (u : Units) (wanted : Need → Bool) where
  -- the operation that a step needs
  abbrev pub asks_step : Step → ℕ
  asks_step (Apply d op a b) = counts_need u wanted (Named op.0)
  asks_step (Load d a) = counts_need u wanted Loads
  asks_step (Take d) = counts_need u wanted Takes
  asks_step (Store a v) = counts_need u wanted Stores
  asks_step (Put v) = counts_need u wanted Puts
  asks_step (If rel a b to) = counts_test u wanted rel
  asks_step (When rel a b d s) = counts_test u wanted rel
  asks_step step = 0

  -- how often a part asks for such operations: a block once for each step that needs one
  abbrev pub asks_part : Program → Homes → Part → ℕ
  asks_part p home (Steps b) = over_steps p home asks_step b.owner b.first (b.last + 1 - b.first)
  asks_part p home part = 0

-- ---- assignments

-- a step that assigns a variable and is no call
abbrev pub assigns_step : Step → ℕ
assigns_step (Copy d s) = 1
assigns_step (Apply d op a b) = 1
assigns_step (Load d a) = 1
assigns_step (Take d) = 1
assigns_step (When rel a b d s) = 1
assigns_step step = 0

-- how often a part assigns
abbrev pub assigns_part : Program → Homes → (live_first : (owner x : ℕ) → Bool) → Part → ℕ
assigns_part p home live_first (Entry owner) = over_live p home (live_first owner) (λ x. 1) 0 (vars_of p owner)
assigns_part p home live_first (Steps b) = over_steps p home assigns_step b.owner b.first (b.last + 1 - b.first)
assigns_part p home live_first (Returned b d callee) = 1
