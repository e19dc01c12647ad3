-- Items on other units than those of a list.
use Rattle.std.specs.Prelude.{◌≡◌, ℕ, zero, suc, ◌==◌, Bool, true, false, not, ◌&&◌, ◌||◌, if◌then◌else◌, List, [], ◌∷◌, length, Option, Some, None, slice_get}
use Rattle.std.specs.Option.{option_map_or}
use Rattle.tta_arch.specs.declared.ends.Source.TheVariants as source
use Rattle.tta_bind.specs.Cited.{Dest, UnitOp, Machine, Target, Reg, Imm, Trigger, Control, Place, KeptOperand, KeptPort, same_place, op_at, same_op, ItemSource, Address, Item, Move, Long, source_of, target_of_item, writes, is_unguarded}
use Rattle.tta_arch.specs.declared.ends.Dest.TheVariants as dest
use Rattle.tta_arch.specs.Effects.{Operand}
use Rattle.tta_moves.specs.declared.items.ItemSource.TheVariants.{Port}
use Rattle.tta_bind.specs.declared.seats.Seat.{Seat}

-- ---- an item on a seat

-- a source, where a result is that of the unit of a seat
abbrev pub seated_source : Seat → ItemSource → ItemSource
seated_source s (Port (source.Reg file index)) = Port (source.Reg file index)
seated_source s (Port (source.Imm unit index)) = Port (source.Imm unit index)
seated_source s (Port (source.Shown unit)) = Port (source.Shown s.read)
seated_source s (Port source.Ra) = Port source.Ra
seated_source s (Port (source.Value word)) = Port (source.Value word)
seated_source s (Address block) = Address block

-- a destination, where a port of a unit is that of the unit of a seat
abbrev pub seated_dest : Seat → Dest → Dest
seated_dest s (dest.Reg file index) = dest.Reg file index
seated_dest s (dest.Operand unit) = dest.Operand s.unit
seated_dest s (dest.Trigger unit op) = dest.Trigger s.unit s.op
seated_dest s dest.Jump = dest.Jump
seated_dest s dest.Call = dest.Call
seated_dest s dest.Halt = dest.Halt

-- the same of a target
abbrev pub seated_target : Seat → Target → Target
seated_target s (Reg file index) = Reg file index
seated_target s (Imm unit index) = Imm unit index
seated_target s (Operand unit) = Operand s.unit
seated_target s (Trigger unit op) = Trigger s.unit s.op
seated_target s (Control kind) = Control kind

-- an item on the units of a seat
abbrev pub seated : Seat → Item → Item
seated s (Move guard src dst) = Move guard (seated_source s src) (seated_dest s dst)
seated s (Long unit index value) = Long unit index value

-- the items of a list on the units of seats, one for each
abbrev pub all_seated : List Seat → List Item → List Item
all_seated [] items = []
all_seated (s ∷ seats) [] = []
all_seated (s ∷ seats) (x ∷ items) = seated s x ∷ all_seated seats items

-- ---- what an item finds

-- the number of the last of the first n items of a list that may write a place
unfoldable pub last_write : Machine → Place → List Item → (n : ℕ) → Option ℕ
last_write m p items zero = None
last_write m p items (suc n) = if option_map_or (writes m p) (slice_get items n) false then Some n else last_write m p items n

-- two places are the same to later items: the same item wrote both last, or they are one that none wrote
abbrev pub same_writer : (p q : Place) → Option ℕ → Option ℕ → Bool
same_writer p q (Some i) (Some j) = i == j
same_writer p q (Some i) None = false
same_writer p q None (Some j) = false
same_writer p q None None = same_place p q

-- The first n items of two lists, the second of which is the first on other units, left the same in a place of the one and in
-- a place of the other.
abbrev pub finds : Machine → (items others : List Item) → (n : ℕ) → (p q : Place) → Bool
finds m items others n p q = same_writer p q (last_write m p items n) (last_write m q others n)

-- ---- which seats an item can have

-- two operations are the same but for how long they take
abbrev pub does_same : Option UnitOp → Option UnitOp → Bool
does_same (Some o) (Some q) = same_op o.op q.op && o.arity == q.arity
does_same (Some o) None = false
does_same None (Some q) = false
does_same None None = false

module _ (m : Machine) (items others : List Item) (n : ℕ) (s : Seat) where
  -- a result that is read is that of the same start
  abbrev pub reads_same : ItemSource → Bool
  reads_same (Port (source.Reg file index)) = true
  reads_same (Port (source.Imm unit index)) = true
  reads_same (Port (source.Shown unit)) = finds m items others n (KeptPort unit) (KeptPort s.read)
  reads_same (Port source.Ra) = true
  reads_same (Port (source.Value word)) = true
  reads_same (Address block) = true

  -- an operation that is started is the same, and so is the word in its operand port, if it takes one
  abbrev pub starts_same : Target → Bool
  starts_same (Reg file index) = true
  starts_same (Imm unit index) = true
  starts_same (Operand unit) = true
  starts_same (Trigger unit op) =
      does_same (op_at m unit op) (op_at m s.unit s.op)
      && option_map_or (λ o. not (o.arity == 2) || finds m items others n (KeptOperand unit) (KeptOperand s.unit)) (op_at m unit op) true
  starts_same (Control kind) = true

  -- a port that is written had the same word before
  abbrev pub had_same : Target → Bool
  had_same (Reg file index) = true
  had_same (Imm unit index) = true
  had_same (Operand unit) = finds m items others n (KeptOperand unit) (KeptOperand s.unit)
  had_same (Trigger unit op) = finds m items others n (KeptPort unit) (KeptPort s.unit)
  had_same (Control kind) = true

  -- An item can have a seat: it finds there what it finds in the list. An item with a guard may leave a port as it is, so the
  -- port it would write has to have the same word already.
  abbrev pub can_have : Item → Bool
  can_have x = reads_same (source_of x) && starts_same (target_of_item x) && (is_unguarded x || had_same (target_of_item x))

-- Seats are units for a list: there is one for each item, which it can have.
pub record AreSeats (m : Machine) (items : List Item) (seats : List Seat) : Type 0 where
  pub size : length seats ≡ length items
  pub each : (n : ℕ) (x : Item) (s : Seat) → slice_get items n ≡ Some x → slice_get seats n ≡ Some s
      → can_have m items (all_seated seats items) n s x ≡ true
