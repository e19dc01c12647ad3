-- Which buses join a source to a destination.
use Rattle.std.specs.Prelude.{ℕ, ◌-◌, ◌/◌, ◌%◌, ◌^◌, ◌==◌, Bool, true, false, not, ◌&&◌, ◌||◌, nat_lt, if◌then◌else◌, length, Option, Some, None, slice_get, option_and_then}
use Rattle.std.specs.Option.{option_map_or}
use Rattle.std.specs.List.{list_any}
use Rattle.tta_arch.specs.declared.parts.Bus.{Bus}
use Rattle.tta_arch.specs.declared.ends.GuardRef.{GuardRef}
use Rattle.tta_arch.specs.declared.ends.Source.{Source}
use Rattle.tta_arch.specs.declared.ends.Source.TheVariants as source
use Rattle.tta_arch.specs.declared.ends.Dest.{Dest}
use Rattle.tta_arch.specs.declared.ends.Dest.TheVariants as dest
use Rattle.tta_arch.specs.Machine.{Machine}

-- whether a set of numbers, kept as one bit each, has this one
abbrev pub has_bit : ℕ → ℕ → Bool
has_bit mask k = mask / 2 ^ k % 2 == 1

-- whether two tests come out alike
abbrev pub is_same : Bool → Bool → Bool
is_same true b = b
is_same false b = not b

-- a socket, where the index of a register is below the size of its file
abbrev pub within : (index size socket : ℕ) → Option ℕ
within index size socket = if nat_lt index size then Some socket else None

-- the socket that a source is joined to, where the machine has such a source
abbrev pub source_socket : Machine → Source → Option ℕ
source_socket m (source.Reg file index) = option_and_then (λ f. within index f.size f.out) (slice_get m.files file)
source_socket m (source.Imm unit index) = option_and_then (λ f. within index f.size f.out) (slice_get m.imms unit)
source_socket m (source.Shown unit) = option_and_then (λ u. u.result) (slice_get m.units unit)
source_socket m source.Ra = m.control.ra
source_socket m (source.Value word) = None

-- the socket that a destination is joined to, where the machine has such a destination
abbrev pub dest_socket : Machine → Dest → Option ℕ
dest_socket m (dest.Reg file index) = option_and_then (λ f. within index f.size f.into) (slice_get m.files file)
dest_socket m (dest.Operand unit) = option_and_then (λ u. u.operand) (slice_get m.units unit)
dest_socket m (dest.Trigger unit op) = option_and_then (λ u. within op (length u.ops) u.trigger) (slice_get m.units unit)
dest_socket m dest.Jump = Some m.control.trigger
dest_socket m dest.Call = Some m.control.trigger
dest_socket m dest.Halt = Some m.control.trigger

-- whether a bus stands in a socket of this direction
abbrev pub has_socket : Machine → (input : Bool) → Option ℕ → ℕ → Bool
has_socket m input None bus = false
has_socket m input (Some k) bus = option_map_or (λ s. is_same input s.input && has_bit s.buses bus) (slice_get m.sockets k) false

-- Whether a bus's short field holds a word. A field of n bits holds the words below 2 ^ n; a signed one holds
-- those whose upper 33 - n bits are equal.
abbrev pub holds_word : Bus → ℕ → Bool
holds_word b word =
    let high = word / 2 ^ (b.short - 1) in
    if b.signed then high == 0 || high == 2 ^ (33 - b.short) - 1 else nat_lt word (2 ^ b.short)

-- whether a bus can take its word from a source
abbrev pub is_source_on : Machine → ℕ → Source → Bool
is_source_on m bus (source.Value word) = option_map_or (λ b. holds_word b word) (slice_get m.buses bus) false
is_source_on m bus src = has_socket m false (source_socket m src) bus

-- whether a bus can bring its word to a destination
abbrev pub is_dest_on : Machine → ℕ → Dest → Bool
is_dest_on m bus dst = has_socket m true (dest_socket m dst) bus

-- whether two guards are of one register and one sense
abbrev pub is_same_guard : GuardRef → GuardRef → Bool
is_same_guard a b = a.file == b.file && a.index == b.index && is_same a.inverted b.inverted

-- whether a move's guard, if it has one, is written for a bus
abbrev pub has_guard : Machine → ℕ → Option GuardRef → Bool
has_guard m bus None = true
has_guard m bus (Some on) = list_any (λ g. g.bus == bus && is_same_guard g.on on) m.guards

-- whether a bus joins the ends of a move, with its guard
abbrev pub joins : Machine → ℕ → Source → Dest → Option GuardRef → Bool
joins m bus src dst guard = is_source_on m bus src && is_dest_on m bus dst && has_guard m bus guard
