-- Sets of units.
use Rattle.std.specs.Prelude.{◌≡◌, ℕ, ◌/◌, ◌%◌, ◌==◌, Bool, ◌&&◌, nat_le, nat_lt, slice_index}
use Rattle.std.specs.Int.{bit_at}
use Rattle.tta_flight.specs.declared.marked.Marked.{Marked}

-- whether a unit is in a set
abbrev pub has : Marked → (unit : ℕ) → Bool
has units unit = bit_at (slice_index units.words (unit / 64)) (unit % 64) == 1

-- The bits of a word are those of the units from one on and before an end, where the word stands for 64 units from unit 64 × number on.
abbrev pub AreBits : (number from end bits : ℕ) → Type 0
AreBits number from end bits = (unit : ℕ) → unit / 64 ≡ number → (bit_at bits (unit % 64) == 1) ≡ (nat_le from unit && nat_lt unit end)
