-- What an item reads and writes.
use Rattle.std.specs.Prelude.{Bool, true, false, ◌||◌, if◌then◌else◌, Option, Some, None, is_none}
use Rattle.std.specs.Option.{option_map_or}
use Rattle.tta_moves.specs.Cited.{GuardRef, Source, Machine, Target, Reg, Imm, Operand, Trigger, Control, Jumps, Calls, Halts, Place, KeptReg, KeptImm, KeptOperand, KeptRa, KeptPort, same_place, target_of, op_at, has_result}
use Rattle.tta_arch.specs.declared.ends.Source.TheVariants as source
use Rattle.tta_moves.specs.declared.items.ItemSource.{ItemSource}
use Rattle.tta_moves.specs.declared.items.ItemSource.TheVariants.{Port, Address}
use Rattle.tta_moves.specs.declared.items.LongValue.{LongValue}
use Rattle.tta_moves.specs.declared.items.LongValue.TheVariants as long
use Rattle.tta_moves.specs.declared.items.Item.{Item}
use Rattle.tta_moves.specs.declared.items.Item.TheVariants.{Move, Long}

-- ---- an item by its parts

-- the guard of an item; a long immediate has none
abbrev pub guard_of : Item → Option GuardRef
guard_of (Move guard src dst) = guard
guard_of (Long unit index value) = None

-- the word of a long immediate as a source
abbrev pub source_of_long : LongValue → ItemSource
source_of_long (long.Word word) = Port (source.Value word)
source_of_long (long.Address block) = Address block

-- where an item takes its word from
abbrev pub source_of : Item → ItemSource
source_of (Move guard src dst) = src
source_of (Long unit index value) = source_of_long value

-- where an item brings its word
abbrev pub target_of_item : Item → Target
target_of_item (Move guard src dst) = target_of dst
target_of_item (Long unit index value) = Imm unit index

-- whether a target is control's trigger port
abbrev pub controls : Target → Bool
controls (Reg file index) = false
controls (Imm unit index) = false
controls (Operand unit) = false
controls (Trigger unit op) = false
controls (Control kind) = true

-- whether an item moves into control's trigger port
abbrev pub is_control : Item → Bool
is_control x = controls (target_of_item x)

-- ---- reading

-- the place that keeps what a source shows; a word has none
abbrev pub place_of : Source → Option Place
place_of (source.Reg file index) = Some (KeptReg file index)
place_of (source.Imm unit index) = Some (KeptImm unit index)
place_of (source.Shown unit) = Some (KeptPort unit)
place_of source.Ra = Some KeptRa
place_of (source.Value word) = None

-- the same of an item's source; an address has none
abbrev pub place_of_source : ItemSource → Option Place
place_of_source (Port src) = place_of src
place_of_source (Address block) = None

-- whether a place is this one
abbrev pub is_at : Place → Option Place → Bool
is_at p o = option_map_or (λ q. same_place q p) o false

-- the place of a guard's register
abbrev pub guard_place : GuardRef → Place
guard_place g = KeptReg g.file g.index

-- whether an item reads a place, as its source or its guard
abbrev pub reads : Place → Item → Bool
reads p x = is_at p (place_of_source (source_of x)) || option_map_or (λ g. same_place (guard_place g) p) (guard_of x) false

-- ---- writing

-- The place that an item may write: a register, an immediate register or an operand port that it moves into, the
-- return address that a call writes, and the result port of the unit that it starts, where the operation has a result.
abbrev pub place_written : Machine → Target → Option Place
place_written m (Reg file index) = Some (KeptReg file index)
place_written m (Imm unit index) = Some (KeptImm unit index)
place_written m (Operand unit) = Some (KeptOperand unit)
place_written m (Trigger unit op) = option_map_or (λ o. if has_result o.op then Some (KeptPort unit) else None) (op_at m unit op) None
place_written m (Control Jumps) = None
place_written m (Control Calls) = Some KeptRa
place_written m (Control Halts) = None

-- whether an item may write a place
abbrev pub writes : Machine → Place → Item → Bool
writes m p x = is_at p (place_written m (target_of_item x))

-- whether an item has no guard, so that it acts in any case
abbrev pub is_unguarded : Item → Bool
is_unguarded x = is_none (guard_of x)
