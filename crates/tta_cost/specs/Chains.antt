-- The costs of chains.
use Rattle.std.specs.Prelude.{◌≡◌, ℕ, Bool, if◌then◌else◌, List, [], ◌∷◌, length}
use Rattle.std.specs.List.{AllByRecursion}
use Rattle.tta_arch.specs.declared.parts.Template.{Template}
use Rattle.tta_circuit.specs.Widths.{width_of}
use Rattle.tta_cost.specs.Cited.{Machine, Expression, Signal, Slice, Whole, shares_from, signal_width, store_width, Cost, behind, beside, chosen, gate_depth}
use Rattle.tta_cost.specs.Depths.{cost_of}

-- how many bits an expression has
abbrev pub bits_of : Machine → Expression → ℕ
bits_of m e = width_of (signal_width m) (store_width m) e

module _ (applied : List ℕ) (m : Machine) where
  -- tests before others, of which one is to hold
  abbrev pub any_cost : List Expression → Cost → Cost
  any_cost [] other = other
  any_cost (t ∷ ts) other = behind gate_depth (beside (cost_of applied m t) (any_cost ts other))

  -- choices before another word, each a word after its test
  abbrev pub first_cost : List (Expression × Expression) → Cost → Cost
  first_cost [] other = other
  first_cost (x ∷ xs) other =
      chosen (bits_of m x.1) (beside (cost_of applied m x.0) (beside (cost_of applied m x.1) (first_cost xs other)))

-- a word, or its lowest bit
abbrev pub cut : (one_bit : Bool) → Expression → Expression
cut one_bit word = if one_bit then Slice 0 1 word else word

-- whether the immediate of each of some templates has 32 bits
abbrev pub AreWide : Machine → List Template → Type 0
AreWide m ts = AllByRecursion (λ t. bits_of m (shares_from m (Signal Whole) t.buses 0 (length m.buses)) ≡ 32) ts
