-- Small lists, and what the definitions make of them, on the machine of three buses.
use Rattle.std.specs.Prelude.{◌≡◌, ℕ, zero, suc, ◌+◌, List, [], ◌∷◌, ◌++◌, length, map, if◌then◌else◌, true, false, Some, None, Option, refl}
use Rattle.std.specs.List.{range_with_len}
use Rattle.tta_moves.specs.Cited.{Units, Source, Dest, Machine, first_some, can_move, Running, Halted, Waiting, Undefined}
use Rattle.tta_arch.specs.declared.ends.Source.TheVariants as source
use Rattle.tta_arch.specs.declared.ends.Dest.TheVariants as dest
use Rattle.tta_arch.proofs.Samples.{three_buses, with_input}
use Rattle.tta_moves.specs.declared.items.ItemSource.TheVariants.{Port, Address}
use Rattle.tta_moves.specs.declared.items.LongValue.TheVariants.{Word}
use Rattle.tta_moves.specs.declared.items.Item.{Item}
use Rattle.tta_moves.specs.declared.items.Item.TheVariants.{Move, Long}
use Rattle.tta_moves.specs.declared.items.BlockList.{BlockList}
use Rattle.tta_moves.specs.declared.items.Slot.{Slot}
use Rattle.tta_moves.specs.declared.items.Slot.TheVariants.{Bus, Template}
use Rattle.tta_moves.specs.declared.items.PlacedItem.{PlacedItem}
use Rattle.tta_moves.specs.Meaning.{Held, Waits, does, lacks, do_items, has_meaning}
use Rattle.tta_moves.specs.Runs.{lrun, begin}
use Rattle.tta_moves.specs.Slots.{is_list, fits_cycle}
use Rattle.tta_moves.specs.Bounds.{least, length_of}
use Rattle.tta_moves.specs.FirstFit.{number_of, fits_beside}
use Rattle.tta_moves.specs.Forms.{is_bypassed, is_shared, is_lively, is_straight}

-- ---- items

-- an unguarded move
abbrev pub go : Source → Dest → Item
go src dst = Move None (Port src) dst

-- a move of a block's address
abbrev pub go_to : ℕ → Dest → Item
go_to block dst = Move None (Address block) dst

abbrev pub r : ℕ → Source
r i = source.Reg 0 i

abbrev pub into : ℕ → Dest
into i = dest.Reg 0 i

-- the units: 0 adds, 1 multiplies and adds, 2 serves the spaces, 3 outputs
abbrev pub o : ℕ → Dest
o unit = dest.Operand unit

abbrev pub t : ℕ → ℕ → Dest
t unit op = dest.Trigger unit op

abbrev pub shown : ℕ → Source
shown unit = source.Shown unit

-- ---- first fit, searched for

abbrev slots_for : Machine → Item → List Slot
slots_for m (Move guard src dst) = map (λ bus. Bus bus) (range_with_len 0 (length m.buses))
slots_for m (Long unit index value) = map (λ k. Template k) (range_with_len 0 (length m.templates))

abbrev first_slot : Machine → List PlacedItem → Item → ℕ → Option Slot
first_slot m placed v cycle = first_some (λ s. if fits_beside m placed v cycle s then Some s else None) (slots_for m v)

-- the first place of an item within so many cycles from this one on
abbrev first_place : Machine → List PlacedItem → Item → ℕ → ℕ → Option PlacedItem
first_place m placed v zero cycle = None
first_place m placed v (suc n) cycle =
    elim (first_slot m placed v cycle) [ Some s ↦ Some (record { item = v; cycle = cycle; slot = s }) | None ↦ first_place m placed v n (cycle + 1) ]

abbrev place : Machine → List PlacedItem → List Item → List PlacedItem
place m placed [] = placed
place m placed (v ∷ vs) =
    elim (first_place m placed v 8 (least m placed v)) [ Some x ↦ place m (placed ++ x ∷ []) vs | None ↦ placed ]

abbrev cycles_of : List PlacedItem → List ℕ
cycles_of placed = map (λ x. x.cycle) placed

abbrev buses_of : List PlacedItem → List ℕ
buses_of placed = map (λ x. number_of x.slot) placed

-- a product, and a sum beside it: the fourth item finds both reads of the file taken in cycle 0
abbrev beside : List Item
beside = go (r 3) (o 1) ∷ go (r 4) (t 1 0) ∷ go (shown 1) (into 5) ∷ go (r 6) (o 0) ∷ go (r 7) (t 0 0) ∷ go (shown 0) (dest.Reg 1 0) ∷ []

beside-is_list : is_list three_buses beside ≡ true
beside-is_list = refl

beside-cycles : cycles_of (place three_buses [] beside) ≡ 0 ∷ 0 ∷ 3 ∷ 1 ∷ 1 ∷ 2 ∷ []
unfolding fits_cycle can_move
beside-cycles = refl

beside-buses : buses_of (place three_buses [] beside) ≡ 0 ∷ 1 ∷ 0 ∷ 0 ∷ 1 ∷ 0 ∷ []
unfolding fits_cycle can_move
beside-buses = refl

beside-length : length_of three_buses (place three_buses [] beside) ≡ 4
unfolding fits_cycle can_move
beside-length = refl

-- the same on one unit: the sum could be triggered in cycle 1, but its result would be due before the product's
abbrev later : List Item
later = go (r 3) (o 1) ∷ go (r 4) (t 1 0) ∷ go (shown 1) (into 5) ∷ go (r 6) (o 1) ∷ go (r 7) (t 1 1) ∷ go (shown 1) (dest.Reg 1 0) ∷ []

later-cycles : cycles_of (place three_buses [] later) ≡ 0 ∷ 0 ∷ 3 ∷ 1 ∷ 3 ∷ 4 ∷ []
unfolding fits_cycle can_move
later-cycles = refl

later-buses : buses_of (place three_buses [] later) ≡ 0 ∷ 1 ∷ 0 ∷ 0 ∷ 1 ∷ 0 ∷ []
unfolding fits_cycle can_move
later-buses = refl

later-length : length_of three_buses (place three_buses [] later) ≡ 5
unfolding fits_cycle can_move
later-length = refl

-- a long immediate takes two of three buses, its register is read a cycle later, and a jump with two delay slots does not
-- wait for what is done by its effect
abbrev wide : List Item
wide = Long 0 0 (Word 100000) ∷ go (source.Imm 0 0) (into 3) ∷ go (r 4) (into 5) ∷ go (r 4) dest.Jump ∷ []

wide-cycles : cycles_of (place three_buses [] wide) ≡ 0 ∷ 1 ∷ 0 ∷ 1 ∷ []
unfolding fits_cycle can_move
wide-cycles = refl

wide-slots : buses_of (place three_buses [] wide) ≡ 0 ∷ 0 ∷ 0 ∷ 1 ∷ []
unfolding fits_cycle can_move
wide-slots = refl

wide-length : length_of three_buses (place three_buses [] wide) ≡ 4
unfolding fits_cycle can_move
wide-length = refl

empty-length : length_of three_buses [] ≡ 1
empty-length = refl

-- no field of this machine holds every address
address-no_list : is_list three_buses (go_to 1 dest.Jump ∷ []) ≡ false
address-no_list = refl

-- ---- what lists mean

start : Held
start = begin three_buses (7 ∷ 8 ∷ []) []

-- the result of a product is read at once
product : List Item
product = go (source.Value 5) (o 1) ∷ go (source.Value 6) (t 1 0) ∷ go (shown 1) (into 3) ∷ go (r 3) (t 3 0) ∷ []

product-means : (u : Units) → has_meaning u three_buses [] 0 start product ≡ true
unfolding does lacks start product
product-means u = refl

product-output : (u : Units) → (do_items u three_buses [] 0 start product).output ≡ u.value 2 5 6 ∷ []
unfolding does start product
product-output u = refl

-- an operand that was never written, and a port without a result
unset-operand : (u : Units) → has_meaning u three_buses [] 0 start (go (source.Value 6) (t 1 0) ∷ []) ≡ false
unfolding does lacks start
unset-operand u = refl

unset-port : (u : Units) → has_meaning u three_buses [] 0 start (go (shown 1) (into 3) ∷ []) ≡ false
unfolding does lacks start
unset-port u = refl

-- ---- legs

block : List Item → List (ℕ × ℕ) → BlockList
block items live = record { items = items; live_out = live }

-- a call of the block after the next, which outputs a word and goes back to the return address; the next halts
called : List BlockList
called =
    block (go (source.Value 9) (into 3) ∷ go (source.Value 4) (into 4) ∷ go_to 2 dest.Call ∷ []) ((0, 3) ∷ [])
    ∷ block (go (r 3) (t 3 0) ∷ go (source.Value 0) dest.Halt ∷ []) []
    ∷ block (go (r 3) (t 3 0) ∷ go source.Ra dest.Jump ∷ []) ((0, 3) ∷ [])
    ∷ []

called-calls : (u : Units) → (lrun u three_buses called (0 ∷ 10 ∷ 20 ∷ 30 ∷ []) [] [] 1).block ≡ 2
unfolding does lacks called block
called-calls u = refl

called-returns : (u : Units) → (lrun u three_buses called (0 ∷ 10 ∷ 20 ∷ 30 ∷ []) [] [] 2).block ≡ 1
unfolding does lacks called block
called-returns u = refl

called-halts : (u : Units) → (lrun u three_buses called (0 ∷ 10 ∷ 20 ∷ 30 ∷ []) [] [] 3).outcome ≡ Halted
unfolding does lacks called block
called-halts u = refl

called-output : (u : Units) → (lrun u three_buses called (0 ∷ 10 ∷ 20 ∷ 30 ∷ []) [] [] 3).state.output ≡ 9 ∷ 9 ∷ []
unfolding does lacks called block
called-output u = refl

-- two blocks without a transfer are one leg; after the last block there is none
fallen : List BlockList
fallen = block (go (source.Value 9) (into 3) ∷ []) ((0, 3) ∷ []) ∷ block (go (r 3) (t 3 0) ∷ []) [] ∷ []

fallen-off : (u : Units) → (lrun u three_buses fallen (0 ∷ 10 ∷ 20 ∷ []) [] [] 1).outcome ≡ Undefined
unfolding does lacks fallen block
fallen-off u = refl

-- a jump to the word after the last block has no meaning
past : (u : Units) → (lrun u three_buses (block (go (source.Value 10) dest.Jump ∷ []) [] ∷ []) (0 ∷ 10 ∷ []) [] [] 1).outcome ≡ Undefined
unfolding does lacks block
past u = refl

-- ---- forms

-- a register is read while the port shows the same; another result of the unit in between hides it
bypassable : is_bypassed three_buses (go (shown 1) (into 3) ∷ go (r 3) (o 0) ∷ []) ≡ false
bypassable = refl

hidden : is_bypassed three_buses (go (shown 1) (into 3) ∷ go (r 5) (t 1 0) ∷ go (r 3) (o 0) ∷ []) ≡ true
hidden = refl

-- an operand port has the word of a register already; a write of the register in between changes that
redundant : is_shared three_buses (go (r 3) (o 0) ∷ go (r 4) (t 0 0) ∷ go (r 3) (o 0) ∷ []) ≡ false
redundant = refl

changed : is_shared three_buses (go (r 3) (o 0) ∷ go (shown 0) (into 3) ∷ go (r 3) (o 0) ∷ []) ≡ true
changed = refl

-- a register is written that is not read any more; one that lives on is not dead; the next write itself may read it
dead : is_lively three_buses [] (go (r 3) (into 4) ∷ []) ≡ false
dead = refl

alive : is_lively three_buses ((0, 4) ∷ []) (go (r 3) (into 4) ∷ []) ≡ true
alive = refl

reread : is_lively three_buses ((0, 4) ∷ []) (go (r 3) (into 4) ∷ go (r 4) (into 4) ∷ []) ≡ true
reread = refl

-- a register goes by way of a scratch register though a bus joins the ends; a result may
detour : is_straight three_buses (Some 0) (go (r 3) (into 0) ∷ go (r 0) (o 0) ∷ []) ≡ false
detour = refl

no_detour : is_straight three_buses (Some 0) (go (shown 1) (into 0) ∷ go (r 0) (o 0) ∷ []) ≡ true
no_detour = refl

-- a word that no short field holds has to go by way of an immediate register
long_way : is_straight three_buses (Some 0) (Long 0 0 (Word 100000) ∷ go (source.Imm 0 0) (into 0) ∷ go (r 0) (o 0) ∷ []) ≡ false
long_way = refl

-- ---- input

-- a word is taken and output
taken : List Item
taken = go (source.Value 0) (t 3 1) ∷ go (shown 3) (into 3) ∷ go (r 3) (t 3 0) ∷ []

given : List ℕ → Held
given input = begin with_input [] input

taken-means : (u : Units) → has_meaning u with_input [] 0 (given (9 ∷ 8 ∷ [])) taken ≡ true
unfolding does lacks taken given
taken-means u = refl

taken-output : (u : Units) → (do_items u with_input [] 0 (given (9 ∷ 8 ∷ [])) taken).output ≡ 9 ∷ []
unfolding does taken given
taken-output u = refl

taken-rest : (u : Units) → (do_items u with_input [] 0 (given (9 ∷ 8 ∷ [])) taken).rest ≡ 8 ∷ []
unfolding does taken given
taken-rest u = refl

-- without a word the list waits, and what it reads after that does not matter
waiting-means : (u : Units) → has_meaning u with_input [] 0 (given []) taken ≡ true
unfolding does lacks taken given
waiting-means u = refl

waiting-exit : (u : Units) → (do_items u with_input [] 0 (given []) taken).exit ≡ Waits
unfolding does taken given
waiting-exit u = refl

waiting-written : (u : Units) → (do_items u with_input [] 0 (given []) taken).written ≡ []
unfolding does taken given
waiting-written u = refl

-- a loop that takes words and outputs them waits after two rounds
looping : List BlockList
looping = block (go (source.Value 0) (t 3 1) ∷ go (shown 3) (t 3 0) ∷ go_to 0 dest.Jump ∷ []) [] ∷ []

looping-goes_on : (u : Units) → (lrun u with_input looping (0 ∷ 10 ∷ []) [] (9 ∷ 8 ∷ []) 2).outcome ≡ Running
unfolding does lacks looping block
looping-goes_on u = refl

looping-waits : (u : Units) → (lrun u with_input looping (0 ∷ 10 ∷ []) [] (9 ∷ 8 ∷ []) 3).outcome ≡ Waiting
unfolding does lacks looping block
looping-waits u = refl

looping-output : (u : Units) → (lrun u with_input looping (0 ∷ 10 ∷ []) [] (9 ∷ 8 ∷ []) 3).state.output ≡ 9 ∷ 8 ∷ []
unfolding does lacks looping block
looping-output u = refl
