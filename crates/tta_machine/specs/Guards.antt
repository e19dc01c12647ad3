-- A guard of a line.
use Rattle.std.specs.Prelude.{ℕ, Bool}
use Rattle.tta_machine.specs.Cited.{Guard}

-- the guard of a bus on this register, in this sense
abbrev pub guard_of : (bus file index : ℕ) → (inverted : Bool) → Guard
guard_of bus file index inverted = record { bus = bus; on = record { file = file; index = index; inverted = inverted } }
