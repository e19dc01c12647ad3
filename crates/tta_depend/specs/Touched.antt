-- What an item touches, by the numbers of the spots.
use Rattle.std.specs.Prelude.{ℕ, ◌+◌, Bool, nat_lt}
use Rattle.tta_depend.specs.Cited.{place_number, Spot, At, Started, Touch}
use Rattle.tta_depend.specs.declared.touches.Touched.{Touched}

-- a number for each spot: those of the places, and then one for each unit's trigger port
abbrev pub spot_number : Spot → ℕ
spot_number (At p) = place_number p
spot_number (Started unit) = 641 + unit

-- a touch of a spot by its number
abbrev pub touched : Touch → Touched
touched t = record { spot = spot_number t.0; after = t.1 }

-- whether a touch is of one of so many spots
abbrev pub spot_below : (spots : ℕ) → Touched → Bool
spot_below spots t = nat_lt t.spot spots

-- whether a touch is soon enough to count on
abbrev pub is_soon : Touched → Bool
is_soon t = nat_lt t.after 1024
