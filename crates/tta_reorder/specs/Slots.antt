-- Which slot of the frame space an item of a list uses, where the list shows it.
use Rattle.std.specs.Prelude.{◌≡◌, ℕ, zero, suc, ◌==◌, Bool, true, false, if◌then◌else◌, List, Option, Some, None, nat_lt, slice_get, slice_index, slice_set}
use Rattle.std.specs.List.{list_all}
use Rattle.std.specs.Option.{option_map_or}
use Rattle.tta_arch.specs.declared.ends.Source.TheVariants as source
use Rattle.tta_reorder.specs.Cited.{Op, Ldf, Stf, Machine, Target, Reg, Imm, Operand, Trigger, Control, KeptOperand, op_at, ItemSource, Port, Item, source_of, target_of_item, writes, is_unguarded}
use Rattle.tta_reorder.specs.Channels.{Division, starts, uses_frame}

-- the constant that a source is, if it is one
abbrev pub constant_of : ItemSource → Option ℕ
constant_of (Port (source.Value word)) = Some word
constant_of src = None

-- the constant that an item brings in any case, if it brings one
abbrev pub sure_constant : Item → Option ℕ
sure_constant x = if is_unguarded x then constant_of (source_of x) else None

-- the constant in the operand port of a unit after the first n items of a list, if the last of them that writes the port
-- brings one in any case
unfoldable pub held_constant : Machine → List Item → (unit n : ℕ) → Option ℕ
held_constant m items unit zero = None
held_constant m items unit (suc n) =
    option_map_or (λ x. if writes m (KeptOperand unit) x then sure_constant x else held_constant m items unit n) (slice_get items n) (held_constant m items unit n)

-- the slot that an operation uses, by the constant that is brought to its trigger port and by the one in its operand port: a
-- load has the address in the former, a store of two words in the latter
abbrev pub slot_by : (brought held : Option ℕ) → (arity : ℕ) → Op → Option ℕ
slot_by brought held arity Ldf = brought
slot_by brought held arity Stf = if arity == 2 then held else None
slot_by brought held arity o = None

-- the slot that what is brought to a target uses, if it uses one that is known by the constants in operand ports
abbrev pub slot_at : Machine → ItemSource → (held : ℕ → Option ℕ) → Target → Option ℕ
slot_at m src held (Reg file index) = None
slot_at m src held (Imm unit index) = None
slot_at m src held (Operand unit) = None
slot_at m src held (Trigger unit op) = option_map_or (λ o. slot_by (constant_of src) (held unit) o.arity o.op) (op_at m unit op) None
slot_at m src held (Control kind) = None

-- the same of an item
abbrev pub slot_with : Machine → Item → (held : ℕ → Option ℕ) → Option ℕ
slot_with m x held = slot_at m (source_of x) held (target_of_item x)

-- the slot that the item of a number uses, if it uses one that is known
abbrev pub slot_of : Machine → List Item → (n : ℕ) → Item → Option ℕ
slot_of m items n x = slot_with m x (λ unit. held_constant m items unit n)

-- the part that an item uses is its slot, where slots are told apart, and else 0
abbrev pub IsPart : (apart : Bool) → (slot : Option ℕ) → (part : ℕ) → Type 0
IsPart true slot part = slot ≡ Some part
IsPart false slot part = part ≡ 0

-- a division of the frame space is that of a list: each item that uses the space has its part
abbrev pub IsDivision : Machine → List Item → Division → Type 0
IsDivision m items d =
    (n : ℕ) (x : Item) → slice_get items n ≡ Some x → starts m uses_frame (target_of_item x) ≡ true
    → IsPart d.apart (slot_of m items n x) (slice_index d.parts n)

-- ---- parts with a number

-- such parts, in a list
pub record AreParts (m : Machine) (items : List Item) (parts : List ℕ) : Type 0 where
  pub apart : Bool
  pub divided : IsDivision m items (record { apart = apart; parts = parts })
  pub few : list_all (λ p. nat_lt p 1024) parts ≡ true

-- parts that are slots
pub record AreSlots (m : Machine) (items : List Item) (slots : List ℕ) : Type 0 where
  pub divided : IsDivision m items (record { apart = true; parts = slots })
  pub few : list_all (λ p. nat_lt p 1024) slots ≡ true

-- ---- on the way down a list

-- the constant in the operand port of a unit, by a list
abbrev pub held_at : List (Option ℕ) → (unit : ℕ) → Option ℕ
held_at held unit = option_map_or (λ word. word) (slice_get held unit) None

-- what is known of operand ports after a word is brought to a target
abbrev pub after_target : List (Option ℕ) → (word : Option ℕ) → Target → List (Option ℕ)
after_target held word (Reg file index) = held
after_target held word (Imm unit index) = held
after_target held word (Operand unit) = slice_set held unit word
after_target held word (Trigger unit op) = held
after_target held word (Control kind) = held

-- the same after an item
abbrev pub after_item : List (Option ℕ) → Item → List (Option ℕ)
after_item held x = after_target held (sure_constant x) (target_of_item x)
