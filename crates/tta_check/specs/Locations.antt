-- Lists of places.
use Rattle.std.specs.Prelude.{◌≡◌, ℕ, Bool, true, false, List, Option, Some, slice_get}
use Rattle.std.specs.Option.{option_map_or}
use Rattle.std.specs.List.{list_any}
use Rattle.tta_check.specs.Cited.{Machine, Effect, Place, target_of, Move, Instruction, effects_of}
use Rattle.tta_arch.specs.Effects.{same_place}
use Rattle.tta_check.specs.declared.location.Location.{Location}
use Rattle.tta_check.specs.Facts.{goes_into}
use Rattle.tta_check.specs.States.{place_of}

-- whether a list has a place
abbrev pub has_location : List Location → Place → Bool
has_location locations p = list_any (λ s. same_place (place_of s) p) locations

-- a list has what another has
abbrev pub Keeps : List Location → List Location → Type 0
Keeps old new = (p : Place) → has_location old p ≡ true → has_location new p ≡ true

-- a list has the place that a slot's move writes
abbrev pub HasWritten : Option Move → List Location → Type 0
HasWritten slot locations =
    (p : Place) → option_map_or (λ v. goes_into p (target_of v.dst)) slot false ≡ true → has_location locations p ≡ true

-- a list has each place that effects write
abbrev pub HasAll : List Effect → List Location → Type 0
HasAll es locations = (p : Place) → list_any (λ e. goes_into p e.target) es ≡ true → has_location locations p ≡ true

-- a list has what another has, and besides it each place that some things write
pub record Adds {A : Type 0} (Has : A → List Location → Type 0) (xs : List A) (old new : List Location) : Type 0 where
  pub kept : Keeps old new
  pub there : (k : ℕ) (x : A) → slice_get xs k ≡ Some x → Has x new

-- a list has each place that code writes
abbrev pub HasCodes : Machine → List Instruction → List Location → Type 0
HasCodes m words locations = (k : ℕ) (i : Instruction) → slice_get words k ≡ Some i → HasAll (effects_of m i) locations
