-- What a row leaves for one item more.
use Rattle.std.specs.Prelude.{ℕ, ◌==◌, Bool, true, false, not, ◌&&◌, nat_lt, List, Option, slice_get, slice_index, bit_and}
use Rattle.std.specs.Option.{option_map_or}
use Rattle.tta_arch.specs.declared.parts.Template.{Template as Field}
use Rattle.tta_reserve.specs.Cited.{GuardRef, Source, Dest, Machine, has_bit, joins, fills}
use Rattle.tta_arch.specs.declared.ends.Source.TheVariants as source
use Rattle.tta_arch.specs.declared.ends.Dest.TheVariants as dest
use Rattle.tta_reserve.specs.declared.row.Row.{Row}

-- ---- a move

-- whether a row leaves a read of a source
abbrev pub row_reads : Machine → Row → Source → Bool
row_reads m r (source.Reg file index) = nat_lt (slice_index r.reads file) (option_map_or (λ q. q.read) (slice_get m.files file) 0)
row_reads m r (source.Imm unit index) = not (has_bit r.imms unit)
row_reads m r (source.Shown unit) = true
row_reads m r source.Ra = true
row_reads m r (source.Value word) = true

-- whether a row leaves a write of a destination
abbrev pub row_writes : Machine → Row → Dest → Bool
row_writes m r (dest.Reg file index) = nat_lt (slice_index r.writes file) (option_map_or (λ q. q.write) (slice_get m.files file) 0)
row_writes m r (dest.Operand unit) = true
row_writes m r (dest.Trigger unit op) = true
row_writes m r dest.Jump = true
row_writes m r dest.Call = true
row_writes m r dest.Halt = true

-- whether a bus has neither a move nor a template
abbrev pub is_open : Row → (bus : ℕ) → Bool
is_open r bus = not (has_bit r.moves bus) && not (has_bit r.taken bus)

-- whether a row takes a move on a bus: the bus joins its ends and is open, and the ends are left
abbrev pub row_takes : Machine → Row → (bus : ℕ) → Source → Dest → Option GuardRef → Bool
row_takes m r bus src dst guard = joins m bus src dst guard && is_open r bus && row_reads m r src && row_writes m r dst

-- ---- a long immediate

-- whether a template writes an immediate register and takes no bus that has a move
abbrev pub fills_beside : Row → (unit index : ℕ) → Field → Bool
fills_beside r unit index q = fills unit index q && bit_and r.moves q.buses == 0

-- whether a row takes a long immediate on one of a machine's templates: none is there yet, and this one can be
abbrev pub row_fills : List Field → Row → (t : ℕ) → (unit index : ℕ) → Bool
row_fills templates r t unit index = not r.template && option_map_or (fills_beside r unit index) (slice_get templates t) false
