-- What a set of units states.
use Rattle.std.specs.Prelude.{ℕ}
use Rattle.std.specs.Global.{Global}
use Rattle.std.specs.declared.dyn_box.DynBox.{DynBox}
use Rattle.tta_ops.specs.declared.set.UnitSet.{UnitSet}
use Rattle.tta_ops.specs.Units.{Units}
use Rattle.tta_ops.specs.Row.{place_of}
use Rattle.tta_ops.specs.Stated.{meant_at, stated_by}

-- for a signature that has no box of a unit: `stated unit_meaning units.now`
abbrev pub stated : {I : Type 0} {V : I → Type 0}
    → ((v : I) × V v → ℕ → ℕ → ℕ → ℕ) → UnitSet I V → Units
stated meaning s =
    stated_by (λ b. meaning (b.vtable, b.value)) s.units.items
    s.table.operations s.table.few s.table.distinct s.table.reserved s.table.one_or_two

-- the same where the signature has a box of a unit
abbrev pub stated_boxed : {I : Type 0} {V : I → Type 0}
    → (DynBox I Global V → ℕ → ℕ → ℕ → ℕ) → UnitSet I V → Units
stated_boxed meaning s =
    stated_by meaning s.units.items
    s.table.operations s.table.few s.table.distinct s.table.reserved s.table.one_or_two

-- what the unit that offers an operation makes of a and b, with 0 for a where it takes one word
abbrev pub meant_boxed : {I : Type 0} {V : I → Type 0}
    → (DynBox I Global V → ℕ → ℕ → ℕ → ℕ) → UnitSet I V → ℕ → ℕ → ℕ → ℕ
meant_boxed meaning s op a b = meant_at meaning s.units.items (place_of s.table.operations op) a b
