-- The definitions at small values.
use Rattle.std.proofs.Common.{◌≡◌, ◌-◌, ◌^◌, true, false, [], ◌∷◌, Some, None, Ok, Err, refl}
use Rattle.tta_ports.specs.declared.error.ReadError.TheVariants.{Failed, TooLong}
use Rattle.tta_ports.specs.Faults.{next_count}
use Rattle.tta_ports.specs.Disk.{first_half, up_to, new_disk, fails_next, called}
use Rattle.tta_ports.specs.Buffer.{Buffer, new_buffer, put_fails, after_put}

one_call : next_count 0 ≡ 1
one_call = refl

-- a count stays at its last value
last_count : next_count (2 ^ 64 - 1) ≡ 2 ^ 64 - 1
last_count = refl

-- calls are numbered from 1
first_call_fails : fails_next (new_disk (1 ∷ [])) ≡ true
first_call_fails = refl

second_call_fails : fails_next (called (new_disk (2 ∷ []))) ≡ true
second_call_fails = refl

first_call_passes : fails_next (new_disk (0 ∷ 2 ∷ [])) ≡ false
first_call_passes = refl

half_of_three : first_half (1 ∷ 2 ∷ 3 ∷ []) ≡ 1 ∷ []
half_of_three = refl

missing_name : up_to 2 None ≡ Err Failed
missing_name = refl

at_the_limit : up_to 2 (Some (7 ∷ 8 ∷ [])) ≡ Ok (7 ∷ 8 ∷ [])
at_the_limit = refl

past_the_limit : up_to 1 (Some (7 ∷ 8 ∷ [])) ≡ Err (TooLong 2)
past_the_limit = refl

-- a sink with room for three bytes, after a put of two of them; its second put is to fail
abbrev two_taken : Buffer
two_taken = after_put (1 ∷ 2 ∷ []) (new_buffer 3 (2 ∷ []))

two_are_taken : two_taken
    ≡ record { taken = 1 ∷ 2 ∷ []; room = 3; failing = 2 ∷ []; puts = 1; faults = 0 }
two_are_taken = refl

-- the half of six bytes is three, and one fits
half_cut_to_the_room : after_put (3 ∷ 4 ∷ 5 ∷ 6 ∷ 7 ∷ 8 ∷ []) two_taken
    ≡ record { taken = 1 ∷ 2 ∷ 3 ∷ []; room = 3; failing = 2 ∷ []; puts = 2; faults = 1 }
half_cut_to_the_room = refl

-- a put of nothing can fail, where it is to
nothing_fails : put_fails two_taken [] ≡ true
nothing_fails = refl

-- past the room, what fits is taken
past_the_room : after_put (1 ∷ 2 ∷ 3 ∷ []) (new_buffer 2 [])
    ≡ record { taken = 1 ∷ 2 ∷ []; room = 2; failing = []; puts = 1; faults = 1 }
past_the_room = refl

up_to_the_room : put_fails (new_buffer 2 []) (1 ∷ 2 ∷ []) ≡ false
up_to_the_room = refl
