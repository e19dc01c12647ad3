-- When one list of items can stand for another.
use Rattle.std.specs.Prelude.{◌≡◌, ◌≢◌, ℕ, ◌≤◌, ◌==◌, Bool, true, false, ◌&&◌, nat_lt, List, length, count_by, Option, Some, None, option_map}
use Rattle.std.specs.Option.{option_map_or}
use Rattle.std.specs.List.{list_any, filter_map}
use Rattle.tta_optim.specs.Cited.{Units, GuardRef, Op, Machine, Target, Reg, Imm, Operand, Trigger, Control, Kind, Place, kept, op_at, hub_of, ItemSource, Port, Address, Item, guard_of, source_of, target_of_item, Held, is_waiting, do_items, has_meaning, BlockList, Run, Undefined, AllPairs, lives, lrun, is_list, is_straight}

-- Two states are alike for what comes after a list: the spaces, the rest of the input, what was output and how the list
-- goes on are equal, and so are, unless it waits, the return address and the registers that are read after it.
pub record Alike (live : List (ℕ × ℕ)) (h k : Held) : Type 0 where
  pub memory : k.memory ≡ h.memory
  pub frame : k.frame ≡ h.frame
  pub rest : k.rest ≡ h.rest
  pub output : k.output ≡ h.output
  pub exit : k.exit ≡ h.exit
  pub registers : is_waiting h.exit ≡ false → (p : Place) → lives live p ≡ true → kept k.written p ≡ kept h.written p

-- From every state from which a list has a meaning, the other has one, and they leave states that are alike.
pub record KeepsMeaning (m : Machine) (live : List (ℕ × ℕ)) (items others : List Item) : Type 0 where
  pub meaning : (u : Units) (addr : List ℕ) (back : ℕ) (h : Held)
      → has_meaning u m addr back h items ≡ true → has_meaning u m addr back h others ≡ true
  pub end : (u : Units) (addr : List ℕ) (back : ℕ) (h : Held)
      → has_meaning u m addr back h items ≡ true → Alike live (do_items u m addr back h items) (do_items u m addr back h others)

-- The same from the states that have the machine's frame, as all states of a run have.
pub record KeepsFramed (m : Machine) (live : List (ℕ × ℕ)) (items others : List Item) : Type 0 where
  pub meaning : (u : Units) (addr : List ℕ) (back : ℕ) (h : Held) → length h.frame ≡ m.frame_words
      → has_meaning u m addr back h items ≡ true → has_meaning u m addr back h others ≡ true
  pub end : (u : Units) (addr : List ℕ) (back : ℕ) (h : Held) → length h.frame ≡ m.frame_words
      → has_meaning u m addr back h items ≡ true → Alike live (do_items u m addr back h items) (do_items u m addr back h others)

-- ---- what is triggered, and what is written

-- the operation that a target triggers, with a guard
abbrev pub triggered : Option GuardRef → Target → Option (Option GuardRef × (ℕ × ℕ))
triggered guard (Reg file index) = None
triggered guard (Imm unit index) = None
triggered guard (Operand unit) = None
triggered guard (Trigger unit op) = Some (guard, (unit, op))
triggered guard (Control kind) = None

-- the operation that an item triggers, with its guard
abbrev pub trigger_of : Item → Option (Option GuardRef × (ℕ × ℕ))
trigger_of x = triggered (guard_of x) (target_of_item x)

-- whether a source is the address of a block
abbrev pub is_address : (block : ℕ) → ItemSource → Bool
is_address block (Port src) = false
is_address block (Address b) = b == block

-- whether an item moves the address of a block, or writes it into an immediate register
abbrev pub names : (block : ℕ) → Item → Bool
names block x = is_address block (source_of x)

-- A list does no more than another: it has no more items and is a list of the machine where that is one; it triggers the
-- same operations in the same order; it brings words to targets of any kind, as to a register, no more often; the addresses
-- in it stand in the other; and it is straight where the other is.
pub record DoesNoMore (m : Machine) (items others : List Item) : Type 0 where
  pub few : length others ≤ length items
  pub list : is_list m items ≡ true → is_list m others ≡ true
  pub triggers : filter_map trigger_of others ≡ filter_map trigger_of items
  pub targets : (p : Target → Bool) → count_by (λ x. p (target_of_item x)) others ≤ count_by (λ x. p (target_of_item x)) items
  pub addresses : (block : ℕ) → list_any (names block) others ≡ true → list_any (names block) items ≡ true
  pub straight : (hub : Option ℕ) → is_straight m hub items ≡ true → is_straight m hub others ≡ true

-- whether a target is a scratch register, one of the first three of the hub
abbrev pub is_scratch : Machine → Target → Bool
is_scratch m (Reg file index) = option_map_or (λ h. h == file && nat_lt index 3) (hub_of m) false
is_scratch m (Imm unit index) = false
is_scratch m (Operand unit) = false
is_scratch m (Trigger unit op) = false
is_scratch m (Control kind) = false

-- what a target is, whichever unit it belongs to: an operand port, or the trigger port of an operation
pub data Aim : Type 0 where
  ToReg : (file index : ℕ) → Aim
  ToImm : (unit index : ℕ) → Aim
  ToOperand : Aim
  ToStart : Option Op → Aim
  ToControl : Kind → Aim

abbrev pub aim_of : Machine → Target → Aim
aim_of m (Reg file index) = ToReg file index
aim_of m (Imm unit index) = ToImm unit index
aim_of m (Operand unit) = ToOperand
aim_of m (Trigger unit op) = ToStart (option_map (λ o. o.op) (op_at m unit op))
aim_of m (Control kind) = ToControl kind

-- A list asks for no more than another: it has no more items and is a list of the machine where that is one; it brings
-- words to targets of any kind but scratch registers, as to the trigger ports of an operation on all units together, no more
-- often; the addresses in it stand in the other; and it is straight where the other is.
pub record AsksNoMore (m : Machine) (items others : List Item) : Type 0 where
  pub few : length others ≤ length items
  pub list : is_list m items ≡ true → is_list m others ≡ true
  pub targets : (p : Aim → Bool) → ((t : Target) → is_scratch m t ≡ true → p (aim_of m t) ≡ false)
      → count_by (λ x. p (aim_of m (target_of_item x))) others ≤ count_by (λ x. p (aim_of m (target_of_item x))) items
  pub addresses : (block : ℕ) → list_any (names block) others ≡ true → list_any (names block) items ≡ true
  pub straight : is_straight m (hub_of m) items ≡ true → is_straight m (hub_of m) others ≡ true

-- ---- runs

-- a block's list stands for another: it leaves the same registers, and keeps the meaning
pub record StandsFor (m : Machine) (b other : BlockList) : Type 0 where
  pub live : other.live_out ≡ b.live_out
  pub meaning : KeepsFramed m b.live_out b.items other.items

-- a list may be placed for another: it stands for it, and asks for no more
pub record IsEquivalent (m : Machine) (b other : BlockList) : Type 0 where
  pub stands : StandsFor m b other
  pub spare : AsksNoMore m b.items other.items

-- two runs of lists have the same outcome, data, rest of the input and output
pub record SameRun (r q : Run Held) : Type 0 where
  pub outcome : q.outcome ≡ r.outcome
  pub memory : q.state.memory ≡ r.state.memory
  pub rest : q.state.rest ≡ r.state.rest
  pub output : q.state.output ≡ r.state.output

-- Where each list stands for another, all of them run as the others do, for all words of the blocks, all data, all input
-- and all numbers of legs for which the others have a meaning.
abbrev pub KeepsRuns : Type 0
KeepsRuns =
    (u : Units) (m : Machine) (lists others : List BlockList) (addr memory input : List ℕ) (n : ℕ) → AllPairs (StandsFor m) lists others
    → (lrun u m lists addr memory input n).outcome ≢ Undefined
    → SameRun (lrun u m lists addr memory input n) (lrun u m others addr memory input n)
