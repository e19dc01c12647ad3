-- What a cycle writes.
use Rattle.std.specs.Prelude.{ℕ, Bool, true, List, [], ◌∷◌, map, Option, slice_get, IsTrue}
use Rattle.std.specs.Option.{option_map_or}
use Rattle.std.specs.List.{AllByRecursion}
use Rattle.tta_sim.specs.Cited.{Machine, Place, KeptImm, Written, Long}
use Rattle.tta_sim.specs.declared.lines.Write.{Write}
use Rattle.tta_sim.specs.Places.{is_place, number_of}

-- the register that a long immediate's template writes, with its word
abbrev pub long_write : Machine → Long → Written
long_write m l = option_map_or (λ t. (KeptImm t.imm t.reg, l.value) ∷ []) (slice_get m.templates l.template) []

-- what the long immediate of an instruction writes, if it has one
abbrev pub long_writes : Machine → Option Long → Written
long_writes m long = option_map_or (long_write m) long []

-- whether that register is there
abbrev pub is_long_place : Machine → Option Long → Bool
is_long_place m long =
    option_map_or (λ l. option_map_or (λ t. is_place (KeptImm t.imm t.reg)) (slice_get m.templates l.template) true) long true

-- a write into a place by the place's number
abbrev pub numbered_one : Place × ℕ → Write
numbered_one w = record { place = number_of w.0; word = w.1 }

-- writes into places by their numbers
abbrev pub numbered : Written → List Write
numbered written = map numbered_one written

-- writes into places that are there
abbrev pub ArePlaces : Written → Type 0
ArePlaces written = AllByRecursion (λ w. IsTrue (is_place w.0)) written
