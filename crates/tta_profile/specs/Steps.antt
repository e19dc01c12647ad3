-- What a cycle adds to the counts.
use Rattle.std.specs.Prelude.{◌≡◌, ℕ, ◌+◌, ◌*◌, ◌<◌, ◌^◌, Bool, true, false, if◌then◌else◌, List, Option, Some, None, slice_index}
use Rattle.tta_profile.specs.Cited.{left, Machine, Written, Instruction, State}
use Rattle.tta_profile.specs.Counts.{Counts, most_buses, is_made, carries, stops}
use Rattle.tta_profile.specs.declared.outside.Space.TheVariants.{Data, Frame}
use Rattle.tta_profile.specs.Outside.{strays}

-- no count is near its greatest
pub record AreSmall (c : Counts) : Type 0 where
  pub executed : (address : ℕ) → slice_index c.executed address < 2 ^ 63
  pub passed : (address bus : ℕ) → bus < most_buses → slice_index c.passed (most_buses * address + bus) < 2 ^ 63

-- the counts are those before, and one more of what the cycle of a state carries out and stops
pub record Adds (step : State → State) (words : List Instruction) (s : State) (old new : Counts) : Type 0 where
  pub executed : (address : ℕ) → slice_index new.executed address ≡ slice_index old.executed address + (if carries step address s then 1 else 0)
  pub passed : (address bus : ℕ) → bus < most_buses
      → slice_index new.passed (most_buses * address + bus) ≡ slice_index old.passed (most_buses * address + bus) + (if stops step words address bus s then 1 else 0)

-- no count of accesses outside the spaces is near its greatest
pub record AreSmallOutside (c : Counts) : Type 0 where
  pub of_data : (address : ℕ) → slice_index c.outside_data address < 2 ^ 63
  pub of_frame : (address : ℕ) → slice_index c.outside_frame address < 2 ^ 63

-- the counts of accesses outside the spaces are those before, and one more of what the cycle of a state accesses so
pub record AddsOutside (step : State → State) (m : Machine) (words : List Instruction) (s : State) (old new : Counts) : Type 0 where
  pub of_data : (address : ℕ)
      → slice_index new.outside_data address ≡ slice_index old.outside_data address + (if strays step m words Data address s then 1 else 0)
  pub of_frame : (address : ℕ)
      → slice_index new.outside_frame address ≡ slice_index old.outside_frame address + (if strays step m words Frame address s then 1 else 0)

-- a cycle was carried out, and the run stands for the state after it
pub record IsOn (step : State → State) (Stands : State → Type 0) (s : State) (took : Bool) : Type 0 where
  pub stands : Stands (step s)
  pub rest : (step s).rest ≡ left took s.rest
  pub made : is_made step s ≡ true

-- no cycle was carried out, nor will one be
pub record IsOver (step : State → State) (s : State) : Type 0 where
  pub made : is_made step s ≡ false
  pub stays : step (step s) ≡ step s

-- what became of a cycle: it was carried out, and took a word of the input or did not, or it was not
abbrev pub Goes : (step : State → State) → List Instruction → (Stands : State → Type 0) → State → (old new : Counts) → Option Bool → Type 0
Goes step words Stands s old new (Some took) = IsOn step Stands s took × Adds step words s old new
Goes step words Stands s old new None = IsOver step s × (new ≡ old)

-- what it wrote and accessed outside, where this is kept of what was written
abbrev pub GoesOutside : (step : State → State) → Machine → List Instruction → (Keeps : Written → Type 0) → State → (old new : Counts) → Option Bool
    → Type 0
GoesOutside step m words Keeps s old new (Some took) = Keeps (step s).written × AddsOutside step m words s old new
GoesOutside step m words Keeps s old new None = new ≡ old
