-- A row with one item more.
use Rattle.std.specs.Prelude.{ℕ, ◌+◌, ◌^◌, true, ◌&&◌, nat_lt, if◌then◌else◌, List, slice_index, set, bit_or}
use Rattle.tta_reserve.specs.Cited.{Source, Dest, ItemSource, Port, Address, Item, Move, Long, Slot, Bus, Template}
use Rattle.tta_arch.specs.declared.ends.Source.TheVariants as source
use Rattle.tta_arch.specs.declared.ends.Dest.TheVariants as dest
use Rattle.tta_arch.specs.declared.parts.Template.{Template as Field}
use Rattle.tta_reserve.specs.declared.row.Row.{Row}
use Rattle.tta_reserve.specs.Taken.{buses_of}

-- one more of eight counts; a byte holds it, as a cycle has at most 16 moves
abbrev pub one_more : List ℕ → (at : ℕ) → List ℕ
one_more counts at = if nat_lt at 8 && nat_lt (slice_index counts at) 255 then set counts at (slice_index counts at + 1) else counts

-- a set of numbers below a most, with one number more
abbrev pub with_bit : (most bits at : ℕ) → ℕ
with_bit most bits at = if nat_lt at most then bit_or bits (2 ^ at) else bits

-- a row with one read more
abbrev pub with_source : Source → Row → Row
with_source (source.Reg file index) r = record r { reads = one_more r.reads file }
with_source (source.Imm unit index) r = record r { imms = with_bit 8 r.imms unit }
with_source (source.Shown unit) r = r
with_source source.Ra r = r
with_source (source.Value word) r = r

-- the same for the source of an item; an address is a word
abbrev pub with_item_source : ItemSource → Row → Row
with_item_source (Port src) r = with_source src r
with_item_source (Address block) r = r

-- a row with one write more
abbrev pub with_dest : Dest → Row → Row
with_dest (dest.Reg file index) r = record r { writes = one_more r.writes file }
with_dest (dest.Operand unit) r = r
with_dest (dest.Trigger unit op) r = r
with_dest dest.Jump r = r
with_dest dest.Call r = r
with_dest dest.Halt r = r

-- a row with one move more
abbrev pub with_move : (bus : ℕ) → ItemSource → Dest → Row → Row
with_move bus src dst r = with_dest dst (with_item_source src (record r { moves = with_bit 16 r.moves bus }))

-- a row with a template that takes these buses
abbrev pub with_template : (buses : ℕ) → Row → Row
with_template buses r = record r { taken = buses; template = true }

-- a row with one item more; a bus carries moves, and a template long immediates
abbrev pub with_item : List Field → Item → Slot → Row → Row
with_item templates (Move guard src dst) (Bus bus) r = with_move bus src dst r
with_item templates (Move guard src dst) (Template t) r = r
with_item templates (Long unit index value) (Bus bus) r = r
with_item templates (Long unit index value) (Template t) r = with_template (buses_of templates t) r
