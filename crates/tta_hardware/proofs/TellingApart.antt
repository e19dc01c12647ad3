-- What tells the signals of a machine apart: their kinds, whose they are, and their numbers.
use Rattle.std.proofs.Common.{◌≡◌, ℕ, map}
use Rattle.std.specs.List.{range_with_len}
use Rattle.tta_hardware.specs.Cited.{KeptReg, KeptImm, KeptOperand, KeptRa, KeptPort}
use Rattle.tta_hardware.specs.Signals.{Field, LongOf, Signal as Named, Pc, HasHalted, Underway, Goal, Ends, Keeps, IsDue, Due, HasBegun, Raw, IsInside, Port, IsOffered, Offer, IsReady, IsReset, Whole, Fetched, Word, Acts, Starts, Trigger, Operand, Controls, GoalNow, EndsNow, Lands, Asks, Gives, Goes, NextPc, Puts, PutWord, Watches, Boxes}
use Rattle.tta_hardware.proofs.Different.{Apart, risen, numbers_rise, mapped}

-- ---- signals

-- the kind of a signal
abbrev pub group : Named → ℕ
group IsOffered = 0
group Offer = 0
group IsReady = 0
group IsReset = 0
group (Fetched f) = 1
group (Port unit) = 2
group (Word bus) = 3
group (Acts bus) = 3
group (Starts unit op) = 4
group (Trigger unit) = 4
group (Operand unit) = 4
group Controls = 5
group GoalNow = 5
group EndsNow = 5
group Lands = 5
group Asks = 5
group Gives = 5
group Goes = 5
group NextPc = 5
group Puts = 5
group PutWord = 5
group (Watches w) = 11
group (Boxes b) = 12
group (Keeps (KeptReg file index)) = 6
group (Keeps (KeptImm unit index)) = 7
group (Keeps (KeptOperand unit)) = 8
group (Keeps (KeptPort unit)) = 8
group (IsDue unit delay) = 8
group (Due unit delay) = 8
group (HasBegun unit op) = 8
group (Raw unit op) = 8
group (IsInside unit op) = 8
group (Underway delay) = 9
group (Keeps KeptRa) = 10
group Pc = 10
group Whole = 10
group HasHalted = 10
group Goal = 10
group Ends = 10

-- where it stands among those of its kind and owner
abbrev pub part : Named → ℕ
part Offer = 1
part IsReady = 2
part IsReset = 3
part (Word bus) = 1
part (Trigger unit) = 1
part (Operand unit) = 2
part GoalNow = 1
part EndsNow = 2
part Lands = 3
part Asks = 4
part Gives = 5
part Goes = 6
part NextPc = 7
part Puts = 8
part PutWord = 9
part (Keeps (KeptPort unit)) = 1
part (IsDue unit delay) = 2
part (Due unit delay) = 3
part (HasBegun unit op) = 4
part (Raw unit op) = 5
part (IsInside unit op) = 6
part Pc = 1
part Whole = 2
part HasHalted = 3
part Goal = 4
part Ends = 5
part n = 0

-- the bus, unit or file that it belongs to
abbrev pub owner : Named → ℕ
owner (Word bus) = bus
owner (Acts bus) = bus
owner (Starts unit op) = unit
owner (Trigger unit) = unit
owner (Operand unit) = unit
owner (Keeps (KeptReg file index)) = file
owner (Keeps (KeptImm unit index)) = unit
owner (Keeps (KeptOperand unit)) = unit
owner (Keeps (KeptPort unit)) = unit
owner (IsDue unit delay) = unit
owner (Due unit delay) = unit
owner (HasBegun unit op) = unit
owner (Raw unit op) = unit
owner (IsInside unit op) = unit
owner n = 0

-- its number there
abbrev pub inner : Named → ℕ
inner (Port unit) = unit
inner (Starts unit op) = op
inner (Keeps (KeptReg file index)) = index
inner (Keeps (KeptImm unit index)) = index
inner (IsDue unit delay) = delay
inner (Due unit delay) = delay
inner (HasBegun unit op) = op
inner (Raw unit op) = op
inner (IsInside unit op) = op
inner (Underway delay) = delay
inner n = 0

-- signals that are made of numbers
pub made_apart : (f : ℕ → Named) → ((i : ℕ) → inner (f i) ≡ i) → (a n : ℕ) → Apart (map f (range_with_len a n))
made_apart f is a n = mapped f inner is (range_with_len a n) (risen (λ (i : ℕ). i) a (range_with_len a n) (numbers_rise a n))

abbrev pub field_of : Named → Field
field_of (Fetched f) = f
field_of n = LongOf
