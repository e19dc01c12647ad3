-- Results in flight, computed.
use Rattle.std.proofs.Common.{◌≡◌, [], Some, None, refl}
use Rattle.tta_flight.specs.Flight.{Flight, started, advanced, port_of, due_of}

-- a result of unit 0 that is due in 2 cycles, and one of unit 1 that is due in 1
abbrev two : Flight
two = started 1 1 9 (started 0 2 7 (record { started = []; moment = λ unit. 5 }))

not_yet : port_of (advanced 0 2 two) 0 ≡ None
not_yet = refl

shows : port_of (advanced 0 2 (advanced 0 2 two)) 0 ≡ Some 7
shows = refl

-- the moment of unit 1 alone
alone : port_of (advanced 1 1 two) 1 ≡ Some 9
alone = refl

other : due_of (advanced 1 1 two) 0 2 ≡ Some 7
other = refl

-- started later by its own moment
own : due_of (started 1 3 4 (advanced 1 1 two)) 1 3 ≡ Some 4
own = refl

-- due at once
at_once : port_of (started 0 0 3 two) 0 ≡ Some 3
at_once = refl
