-- Which signals of a machine have names that tell them.
use Rattle.std.proofs.Common.{ℕ, ◌^◌, Bool, true, ◌&&◌, nat_lt}
use Rattle.tta_arch.specs.Effects.{Place, KeptReg, KeptImm, KeptOperand, KeptRa, KeptPort}
use Rattle.tta_hardware.specs.Signals.{GuardOf, IsShort, SourceOf, ShortOf, DestOf, Signal as Named, Underway, Keeps, IsDue, Due, HasBegun, Raw, IsInside, Port, Fetched, Word, Acts, Starts, Trigger, Operand, HasWord, LacksRegister, LacksPort, LacksOperand, Clashes, Watches, Shows, IsFrom, Boxes}

-- whether a number has at most 64 bits
abbrev pub small : ℕ → Bool
small n = nat_lt n (2 ^ 64)

-- whether a place has a name that tells it, where there are so many files, immediate units and units
abbrev pub is_place_named : (files imms units : ℕ) → Place → Bool
is_place_named f i u (KeptReg k n) = nat_lt k f && small n
is_place_named f i u (KeptImm k n) = nat_lt k i && small n
is_place_named f i u (KeptOperand k) = nat_lt k u
is_place_named f i u (KeptPort k) = nat_lt k u
is_place_named f i u KeptRa = true

-- the same of a signal, with so many buses
abbrev pub is_named : (buses files imms units : ℕ) → Named → Bool
is_named b f i u (Underway n) = small n
is_named b f i u (Keeps p) = is_place_named f i u p
is_named b f i u (IsDue k n) = nat_lt k u && small n
is_named b f i u (Due k n) = nat_lt k u && small n
is_named b f i u (HasBegun k n) = nat_lt k u && small n
is_named b f i u (Raw k n) = nat_lt k u && small n
is_named b f i u (IsInside k n) = nat_lt k u && small n
is_named b f i u (Starts k n) = nat_lt k u && small n
is_named b f i u (Port k) = nat_lt k u
is_named b f i u (Trigger k) = nat_lt k u
is_named b f i u (Operand k) = nat_lt k u
is_named b f i u (Fetched (GuardOf k)) = nat_lt k b
is_named b f i u (Fetched (IsShort k)) = nat_lt k b
is_named b f i u (Fetched (SourceOf k)) = nat_lt k b
is_named b f i u (Fetched (ShortOf k)) = nat_lt k b
is_named b f i u (Fetched (DestOf k)) = nat_lt k b
is_named b f i u (Word k) = nat_lt k b
is_named b f i u (Acts k) = nat_lt k b
is_named b f i u (Watches (HasWord p)) = is_place_named f i u p
is_named b f i u (Watches (LacksRegister k)) = nat_lt k b
is_named b f i u (Watches (LacksPort k)) = nat_lt k b
is_named b f i u (Watches (LacksOperand k)) = nat_lt k u
is_named b f i u (Watches (Clashes k)) = nat_lt k u
is_named b f i u (Boxes (Shows k n)) = nat_lt k u && small n
is_named b f i u (Boxes (IsFrom k n delay)) = (nat_lt k u && small n) && small delay
is_named b f i u n = true
