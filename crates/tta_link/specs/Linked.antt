-- The code of placed blocks, one after another.
use Rattle.std.specs.Prelude.{◌≡◌, ℕ, ◌+◌, ◌<◌, ◌==◌, if◌then◌else◌, List, [], ◌∷◌, length, map, Option, Some, None, slice_get, slice_index}
use Rattle.std.specs.List.{range_with_len, flat_map}
use Rattle.tta_link.specs.Cited.{Machine, first_some, Item, LongValue, Slot, Bus, Template, PlacedItem, Placed, linked, in_cycle, Move, Long, Instruction, Code}
use Rattle.tta_moves.specs.declared.items.Item.TheVariants as item
use Rattle.tta_moves.specs.declared.items.LongValue.TheVariants as long

-- the move that an item is on a bus, if its slot is that bus; an address is the word of its block
abbrev pub move_on : (addr : List ℕ) → (bus : ℕ) → Slot → Item → Option Move
move_on addr bus (Bus b) (item.Move guard src dst) = if b == bus then Some (record { guard = guard; src = linked addr src; dst = dst }) else None
move_on addr bus (Bus b) (item.Long unit index value) = None
move_on addr bus (Template t) i = None

-- the word of a long immediate
abbrev pub long_word : (addr : List ℕ) → LongValue → ℕ
long_word addr (long.Word word) = word
long_word addr (long.Address block) = slice_index addr block

-- the long immediate that an item is, if its slot is a template
abbrev pub long_on : (addr : List ℕ) → Slot → Item → Option Long
long_on addr (Template t) (item.Long unit index value) = Some (record { template = t; value = long_word addr value })
long_on addr (Template t) (item.Move guard src dst) = None
long_on addr (Bus b) i = None

-- an instruction of these items, each on its slot, and nothing on the others
abbrev pub instruction_of : Machine → (addr : List ℕ) → List PlacedItem → Instruction
instruction_of m addr xs = record {
  moves = map (λ bus. first_some (λ x. move_on addr bus x.slot x.item) xs) (range_with_len 0 (length m.buses));
  long = first_some (λ x. long_on addr x.slot x.item) xs;
}

-- the words of the code from an address on are the cycles of a placed list
abbrev pub HoldsBlock : Machine → Code → (addr : List ℕ) → (base : ℕ) → Placed → Type 0
HoldsBlock m code addr base p = (c : ℕ) → c < p.length → slice_get code.words (base + c) ≡ Some (instruction_of m addr (in_cycle c p.items))

-- where each block begins, from an address on, and where the last ends
abbrev pub starts_from : ℕ → List Placed → List ℕ
starts_from a [] = a ∷ []
starts_from a (p ∷ ps) = a ∷ starts_from (a + p.length) ps

-- the words of a block
abbrev pub block_words : Machine → (addr : List ℕ) → Placed → List Instruction
block_words m addr p = map (λ c. instruction_of m addr (in_cycle c p.items)) (range_with_len 0 p.length)

-- code is that of these blocks, one after another, where an address is the word at which its block begins
abbrev pub IsLinked : Machine → Code → List Placed → Type 0
IsLinked m code ps = code.words ≡ flat_map (block_words m (starts_from 0 ps)) ps
