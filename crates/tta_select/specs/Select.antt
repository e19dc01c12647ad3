-- The lists of moves that register code becomes.
use Rattle.std.specs.Prelude.{ℕ, ◌==◌, Bool, true, false, ◌&&◌, ◌||◌, if◌then◌else◌, List, [], ◌∷◌, ◌++◌, map, Option, Some, None, is_some, get_or, find}
use Rattle.std.specs.Option.{option_map_or, unwrap_or}
use Rattle.std.specs.List.{flat_map}
use Rattle.tta_select.specs.Cited.{Units, named, Op, Ldw, Stw, Ldf, Stf, Out, Set, GuardRef, Dest, Machine, Choice, Call, offered, Rel, Eq, Ne, Lt, Ge, Ltu, Geu, ItemSource, Port, LongValue, Item, Move, Long, BlockList, source_of_long, joined, test_name, RSrc, RStep, Copy, Apply, Load, Store, Put, When, SaveRa, Goto, If, Invoke, Back, Halt, RBlock, Rir}
use Rattle.tta_arch.specs.declared.parts.Template.{Template as Field}
use Rattle.tta_arch.specs.declared.parts.Op.TheVariants.{Take}
use Rattle.tta_arch.specs.declared.ends.Source.TheVariants as source
use Rattle.tta_arch.specs.declared.ends.Dest.TheVariants as dest
use Rattle.tta_moves.specs.declared.items.LongValue.TheVariants as long
use Rattle.tta_lir.specs.declared.code.Place.{Place}
use Rattle.tta_lir.specs.declared.code.Place.TheVariants as place
use Rattle.tta_lir.specs.declared.code.RSrc.TheVariants as rsrc
use Rattle.tta_lir.specs.declared.code.RStep.TheVariants.{Take as TakeIn}
use Rattle.tta_lir.specs.declared.code.Exit.{Exit}
use Rattle.tta_lir.specs.declared.code.Exit.TheVariants.{Next}

-- ---- what a condition needs

-- the operation of a condition; where the units have none of its name, one that nothing offers in its place
abbrev pub test_op : Units → Rel → Op
test_op u rel = Set (record { 0 = option_map_or (λ id. id) (named u (test_name rel)) 65536 })

-- whether a condition holds where its operation does not
abbrev pub is_inverted : Rel → Bool
is_inverted Eq = false
is_inverted Ne = true
is_inverted Lt = false
is_inverted Ge = true
is_inverted Ltu = false
is_inverted Geu = true

-- ---- ends

-- a move without a guard
abbrev pub goes : ItemSource → Dest → Item
goes src dst = Move None src dst

-- an immediate register
abbrev pub filled : Field → ItemSource
filled t = Port (source.Imm t.imm t.reg)

-- where an operation takes its words, and where its result shows
abbrev pub operand_at : Call → Dest
operand_at f = dest.Operand f.unit

abbrev pub trigger_at : Call → Dest
trigger_at f = dest.Trigger f.unit f.op

abbrev pub shown_at : Call → ItemSource
shown_at f = Port (source.Shown f.unit)

-- what stands for an operation that no usable unit offers
abbrev pub no_call : Op → Call
no_call op = record { unit = 32; op = 0; does = record { op = op; arity = 1; latency = 1 } }

module _ (m : Machine) (c : Choice) where
  -- the hub's registers as ends; register 0 is for ways alone, and register 1 for the value of a `when`
  abbrev pub hub_at : ℕ → Dest
  hub_at index = dest.Reg c.hub index

  abbrev pub from_hub : ℕ → ItemSource
  from_hub index = Port (source.Reg c.hub index)

  -- a home register by its number, as file and index
  abbrev pub home_pair : ℕ → ℕ × ℕ
  home_pair k = get_or c.homes k (0, 0)

  abbrev pub home_at : ℕ → Dest
  home_at k = dest.Reg (home_pair k).0 (home_pair k).1

  abbrev pub from_home : ℕ → ItemSource
  from_home k = Port (source.Reg (home_pair k).0 (home_pair k).1)

  abbrev pub guard_at : Dest
  guard_at = dest.Reg c.guard_file c.guard_index

  -- the first usable unit's operation of a kind
  abbrev pub call_of : Op → Call
  call_of op = unwrap_or (offered m c.usable op) (no_call op)

  -- ---- ways

  -- the first template whose register some bus joins to a place, with a guard
  abbrev pub long_for : Dest → Option GuardRef → Option Field
  long_for dst guard = find (λ t. joined m (filled t) dst guard) m.templates

  -- from a place to another through the hub
  abbrev pub through_hub : Option GuardRef → ItemSource → Dest → List Item
  through_hub guard src dst = goes src (hub_at 0) ∷ Move guard (from_hub 0) dst ∷ []

  -- the way of a word or an address by an immediate register that is joined to the hub
  abbrev pub long_hub : Option GuardRef → LongValue → Dest → Option Field → List Item
  long_hub guard v dst (Some t) = Long t.imm t.reg v ∷ through_hub guard (filled t) dst
  long_hub guard v dst None = Move guard (source_of_long v) dst ∷ []

  -- the same by one that is joined to the place
  abbrev pub long_way : Option GuardRef → LongValue → Dest → Option Field → List Item
  long_way guard v dst (Some t) = Long t.imm t.reg v ∷ Move guard (filled t) dst ∷ []
  long_way guard v dst None = long_hub guard v dst (long_for (hub_at 0) None)

  -- the way of a word or an address to a place, the first of these that there is: at once; through the hub; from an
  -- immediate register; from one through the hub
  abbrev pub constant : Option GuardRef → LongValue → Dest → List Item
  constant guard v dst =
      if joined m (source_of_long v) dst guard then Move guard (source_of_long v) dst ∷ []
      else if joined m (from_hub 0) dst guard && joined m (source_of_long v) (hub_at 0) None then through_hub guard (source_of_long v) dst
      else long_way guard v dst (long_for dst guard)

  -- the way of a register, a result or the return address: at once, or else through the hub
  abbrev pub carry : Option GuardRef → ItemSource → Dest → List Item
  carry guard src dst = if joined m src dst guard then Move guard src dst ∷ [] else through_hub guard src dst

  -- the word of a slot is loaded, and its result carried on
  abbrev pub fetch : Option GuardRef → ℕ → Dest → List Item
  fetch guard slot dst = constant None (long.Word slot) (trigger_at (call_of Ldf)) ++ carry guard (shown_at (call_of Ldf)) dst

  -- the way of an operand to a place
  abbrev pub value : Option GuardRef → RSrc → Dest → List Item
  value guard (rsrc.Word w) dst = constant guard (long.Word w) dst
  value guard (rsrc.At (place.Reg k)) dst = carry guard (from_home k) dst
  value guard (rsrc.At (place.Frame slot)) dst = fetch guard slot dst

  -- whether such a way is there
  abbrev pub reaches : Option GuardRef → RSrc → Dest → Bool
  reaches guard (rsrc.Word w) dst =
      joined m (Port (source.Value w)) dst guard || joined m (from_hub 0) dst guard || is_some (long_for dst guard)
  reaches guard (rsrc.At (place.Reg k)) dst = joined m (from_home k) dst guard || joined m (from_hub 0) dst guard
  reaches guard (rsrc.At (place.Frame slot)) dst = joined m (shown_at (call_of Ldf)) dst guard || joined m (from_hub 0) dst guard

  -- ---- operations

  -- the operand, where an operation takes two words, and then the trigger
  abbrev pub operate : Call → (a b : RSrc) → List Item
  operate f a b = (if f.does.arity == 2 then value None a (operand_at f) else []) ++ value None b (trigger_at f)

  -- the address of a slot goes to the operand port of the store
  abbrev pub address_slot : ℕ → List Item
  address_slot slot = constant None (long.Word slot) (operand_at (call_of Stf))

  -- the result goes to its place
  abbrev pub result : Call → Place → List Item
  result f (place.Reg k) = carry None (shown_at f) (home_at k)
  result f (place.Frame slot) = address_slot slot ++ carry None (shown_at f) (trigger_at (call_of Stf))

  -- a word from the hub's register 1 goes to its place
  abbrev pub merged : Place → List Item
  merged (place.Reg k) = goes (from_hub 1) (home_at k) ∷ []
  merged (place.Frame slot) = address_slot slot ++ goes (from_hub 1) (trigger_at (call_of Stf)) ∷ []

  -- the word of a place goes to the hub's register 1
  abbrev pub brings_old : Place → List Item
  brings_old (place.Reg k) = goes (from_home k) (hub_at 1) ∷ []
  brings_old (place.Frame slot) = fetch None slot (hub_at 1)

  -- a place gets a word or keeps its own: at once, where there is a way with the guard, or else in the hub's register 1
  abbrev pub choose : GuardRef → RSrc → Place → List Item
  choose g s d = on d where
    merging : Place → List Item
    merging d = brings_old d ++ (value (Some g) s (hub_at 1) ++ merged d)

    on : Place → List Item
    on (place.Reg k) = if reaches (Some g) s (home_at k) then value (Some g) s (home_at k) else merging (place.Reg k)
    on (place.Frame slot) = merging (place.Frame slot)

  module _ (u : Units) where
    -- the guard register gets the low bit of the operation of a condition
    abbrev pub condition : Rel → (a b : RSrc) → List Item
    condition rel a b = operate (call_of (test_op u rel)) a b ++ carry None (shown_at (call_of (test_op u rel))) guard_at

    -- the guard under which a condition holds then
    abbrev pub guard_of_rel : Rel → GuardRef
    guard_of_rel rel = record { file = c.guard_file; index = c.guard_index; inverted = is_inverted rel }

    -- ---- steps, exits and blocks

    abbrev pub items_of_step : RStep → List Item
    items_of_step (Copy (place.Reg k) s) = value None s (home_at k)
    items_of_step (Copy (place.Frame slot) s) = address_slot slot ++ value None s (trigger_at (call_of Stf))
    items_of_step (Apply d op a b) = operate (call_of (Set op)) a b ++ result (call_of (Set op)) d
    items_of_step (Load d a) = value None a (trigger_at (call_of Ldw)) ++ result (call_of Ldw) d
    items_of_step (TakeIn d) = constant None (long.Word 0) (trigger_at (call_of Take)) ++ result (call_of Take) d
    items_of_step (Store a v) = value None a (operand_at (call_of Stw)) ++ value None v (trigger_at (call_of Stw))
    items_of_step (Put v) = value None v (trigger_at (call_of Out))
    items_of_step (When rel a b d s) = condition rel a b ++ choose (guard_of_rel rel) s d
    items_of_step (SaveRa slot) = address_slot slot ++ carry None (Port source.Ra) (trigger_at (call_of Stf))

    abbrev pub items_of_exit : Exit → List Item
    items_of_exit Next = []
    items_of_exit (Goto to) = constant None (long.Address to) dest.Jump
    items_of_exit (If rel a b to) = condition rel a b ++ constant (Some (guard_of_rel rel)) (long.Address to) dest.Jump
    items_of_exit (Invoke to) = constant None (long.Address to) dest.Call
    items_of_exit (Back slot) = fetch None slot dest.Jump
    items_of_exit Halt = constant None (long.Word 0) dest.Halt

    unfoldable pub items_of_block : RBlock → List Item
    items_of_block b = flat_map items_of_step b.steps ++ items_of_exit b.exit

    abbrev pub list_of : RBlock → BlockList
    list_of b = record { items = items_of_block b; live_out = map home_pair b.live_out }

    -- the list of each block
    abbrev pub selected : Rir → List BlockList
    selected r = map list_of r.blocks
