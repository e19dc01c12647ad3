-- Placed blocks that can be linked, and how long they are.
use Rattle.std.specs.Prelude.{◌≡◌, ⊤, ℕ, ◌+◌, ◌<◌, ◌≤◌, ◌^◌, Bool, true, ◌&&◌, nat_lt, List, [], ◌∷◌, length, Some, slice_get}
use Rattle.std.specs.List.{list_all}
use Rattle.tta_link.specs.Cited.{Machine, Item, ItemSource, Port, Address, LongValue, Slot, Bus, Template, PlacedItem, Placed, fits_cycle, in_cycle}
use Rattle.tta_moves.specs.declared.items.Item.TheVariants as item
use Rattle.tta_moves.specs.declared.items.LongValue.TheVariants as long
use Rattle.tta_link.specs.declared.row.LinkError.{LinkError}
use Rattle.tta_link.specs.declared.row.LinkError.TheVariants.{CodeFull, NoMemory}

-- whether a source, if it is an address, is that of one of so many blocks
abbrev pub source_within : (blocks : ℕ) → ItemSource → Bool
source_within blocks (Port src) = true
source_within blocks (Address block) = nat_lt block blocks

-- whether the word of a long immediate, if it is an address, is that of one of so many blocks
abbrev pub value_within : (blocks : ℕ) → LongValue → Bool
value_within blocks (long.Word word) = true
value_within blocks (long.Address block) = nat_lt block blocks

-- whether each address of an item is that of one of so many blocks
abbrev pub is_within : (blocks : ℕ) → Item → Bool
is_within blocks (item.Move guard src dst) = source_within blocks src
is_within blocks (item.Long unit index value) = value_within blocks value

-- A placed block that can be linked beside so many: it has a cycle at least, its items stand in its cycles, the machine
-- can carry out each cycle, and each address is that of one of the blocks.
pub record IsBlock (m : Machine) (blocks : ℕ) (p : Placed) : Type 0 where
  pub long : 1 ≤ p.length
  pub cycles : list_all (λ x. nat_lt x.cycle p.length) p.items ≡ true
  pub fits : (cycle : ℕ) → fits_cycle m (in_cycle cycle p.items) ≡ true
  pub addresses : list_all (λ x. is_within blocks x.item) p.items ≡ true

-- how many blocks can be linked, 2 ^ 24
abbrev pub most_blocks : ℕ
most_blocks = 16777216

-- blocks that can be linked
pub record AreBlocks (m : Machine) (ps : List Placed) : Type 0 where
  pub few : length ps ≤ most_blocks
  pub each : (k : ℕ) (p : Placed) → slice_get ps k ≡ Some p → IsBlock m (length ps) p

-- how many cycles blocks take, one after another
abbrev pub total_length : List Placed → ℕ
total_length [] = 0
total_length (p ∷ ps) = p.length + total_length ps

-- Why code was not linked: the blocks take more cycles than the machine has addresses, and the error has these two numbers;
-- or the linker ran out of memory.
abbrev pub HasCause : Machine → List Placed → LinkError → Type 0
HasCause m ps (CodeFull words have) = (words ≡ total_length ps) × (have ≡ 2 ^ m.control.address) × (have < words)
HasCause m ps NoMemory = ⊤

-- ---- the parts of the work

-- whether a slot is a bus of so many, if it is a bus
abbrev pub slot_within : (buses : ℕ) → Slot → Bool
slot_within buses (Bus b) = nat_lt b buses
slot_within buses (Template t) = true

-- whether an item has its place: a cycle of so many, a bus of so many, and addresses of so many blocks
abbrev pub has_place : (cycles buses blocks : ℕ) → PlacedItem → Bool
has_place cycles buses blocks x = nat_lt x.cycle cycles && slot_within buses x.slot && is_within blocks x.item
