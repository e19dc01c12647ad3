-- The text of the lists of each block, and of its code.
use Rattle.std.specs.Prelude.{ℕ, ◌+◌, List, [], ◌++◌, Option, None, slice_get, length, codes}
use Rattle.std.specs.Option.{option_map_or}
use Rattle.std.specs.List.{flat_map, enumerate_from}
use Rattle.tta_stages.specs.Cited.{Units, GuardRef, Value, Dest, numbers, Machine, Program, Instruction, Item, Move, Long, ItemSource, Port, Address, LongValue, BlockList, Placed, Part, imm_name, place_text, guard_text, move_text, instruction_text, Order, Items, Latest, Groups, Passed, Ordered, Round, Rounds, Start, Derivation}
use Rattle.tta_moves.specs.declared.items.LongValue.TheVariants as long
use Rattle.tta_stages.specs.Words.{count_text, pairs_text}
use Rattle.tta_stages.specs.RegisterText.{named_text, range_text}

-- ---- items

-- a move of the address of a block: its guard, the block's name, and the destination
unfoldable pub address_text : Units → Machine → Option GuardRef → (block : ℕ) → Dest → List ℕ
address_text u m guard block dst = guard_text m guard ++ (codes "b" ++ move_text u m (record { guard = None; src = Value block; dst = dst }))

-- a move
abbrev pub move_item_text : Units → Machine → Option GuardRef → ItemSource → Dest → List ℕ
move_item_text u m guard (Port src) dst = move_text u m (record { guard = guard; src = src; dst = dst })
move_item_text u m guard (Address block) dst = address_text u m guard block dst

-- the word of a long immediate
abbrev pub value_text : LongValue → List ℕ
value_text (long.Word word) = count_text (codes "long ") word
value_text (long.Address block) = count_text (codes "long b") block

-- a long immediate
unfoldable pub long_item_text : Machine → (imm reg : ℕ) → LongValue → List ℕ
long_item_text m imm reg value = value_text value ++ (codes " -> " ++ place_text (imm_name m imm) reg)

-- an item
abbrev pub item_text : Units → Machine → Item → List ℕ
item_text u m (Move guard src dst) = move_item_text u m guard src dst
item_text u m (Long imm reg value) = long_item_text m imm reg value

-- an item as a line
unfoldable pub item_line : Units → Machine → Item → List ℕ
item_line u m x = codes " " ++ (item_text u m x ++ codes "\n")

-- items, each as a line
abbrev pub items_text : Units → Machine → List Item → List ℕ
items_text u m items = flat_map (item_line u m) items

-- ---- lists

-- what a list in another order is
abbrev pub order_name : Order → List ℕ
order_name Items = codes " ordered by items"
order_name Latest = codes " ordered by latest cycles"
order_name Groups = codes " ordered by groups"

-- the registers that are read after a list
unfoldable pub live_text : Machine → BlockList → List ℕ
live_text m list = codes " live after :" ++ (pairs_text m list.live_out ++ codes "\n")

module _ (u : Units) (m : Machine) (p : Program) (parts : List Part) (k : ℕ) where
  -- a list of a block, after what the block stands for and what the list is
  unfoldable pub list_text : (what : List ℕ) → BlockList → List ℕ
  list_text what list =
      codes "list " ++ (named_text p parts k ++ (what ++ (count_text (codes " items ") (length list.items) ++ (codes "\n" ++ items_text u m list.items))))

  -- a list in another order, if there is one
  abbrev pub ordered_text : Option Ordered → List ℕ
  ordered_text o = option_map_or (λ x. list_text (order_name x.by) x.list) o []

  -- a list after each of the passes
  unfoldable pub passed_text : Passed → List ℕ
  passed_text r = list_text (codes " after bypass") r.bypassed ++ (list_text (codes " after share") r.shared ++ list_text (codes " after dead") r.lively)

  -- a list that takes another's place, if there is one
  abbrev pub other_text : (what : List ℕ) → Option BlockList → List ℕ
  other_text what o = option_map_or (list_text what) o []

  -- a round
  unfoldable pub round_text : Round → List ℕ
  round_text r = ordered_text r.ordered ++ (other_text (codes " bound to units") r.bound ++ passed_text r.passed)

  -- one round or two
  unfoldable pub rounds_text : Rounds → List ℕ
  rounds_text r = round_text r.first ++ option_map_or round_text r.second []

  -- the lists before the rounds
  unfoldable pub start_text : Start → List ℕ
  start_text s = other_text (codes " served") s.served ++ other_text (codes " bound to units") s.bound

  -- the lists along a trail
  unfoldable pub trail_text : Derivation → List ℕ
  trail_text t = start_text t.start ++ rounds_text t.rounds

  -- the lists along the trail of the block, if it has one
  abbrev pub trail_at : List Derivation → List ℕ
  trail_at trails = option_map_or trail_text (slice_get trails k) []

  -- the lists of a block, from the selected one
  unfoldable pub block_lists_text : List Derivation → BlockList → List ℕ
  block_lists_text trails list =
      list_text (codes " selected") list ++ (live_text m list ++ trail_at trails)

-- the lists of each block
abbrev pub lists_text : Units → Machine → Program → List Part → List Derivation → List BlockList → List ℕ
lists_text u m p parts trails lists = flat_map (λ x. block_lists_text u m p parts x.0 trails x.1) (enumerate_from 0 lists)

-- ---- code

-- an instruction, after its address
unfoldable pub row_text : Units → Machine → (address : ℕ) → Instruction → List ℕ
row_text u m address i = count_text (codes " ") address ++ (codes " : " ++ instruction_text u m i)

-- the instruction of an address, if there is one
abbrev pub row_at : Units → Machine → List Instruction → (address : ℕ) → List ℕ
row_at u m words address = option_map_or (row_text u m address) (slice_get words address) []

-- so many instructions from an address on
abbrev pub rows_text : Units → Machine → List Instruction → (start count : ℕ) → List ℕ
rows_text u m words start count = flat_map (λ c. row_at u m words (start + c)) (numbers count)

module _ (u : Units) (m : Machine) (p : Program) (parts : List Part) (words : List Instruction) where
  -- the code of a block with its heading
  unfoldable pub placed_text : (k start cycles : ℕ) → List ℕ
  placed_text k start cycles =
      codes "placed " ++ (named_text p parts k ++ (range_text start cycles ++ (codes "\n" ++ rows_text u m words start cycles)))

  -- the same where the block's code begins at an address
  abbrev pub placed_at : (starts : List ℕ) → (k : ℕ) → Placed → List ℕ
  placed_at starts k x = option_map_or (λ a. placed_text k a x.length) (slice_get starts k) []

  -- the code of each block
  abbrev pub code_rows : (starts : List ℕ) → List Placed → List ℕ
  code_rows starts placed = flat_map (λ x. placed_at starts x.0 x.1) (enumerate_from 0 placed)
