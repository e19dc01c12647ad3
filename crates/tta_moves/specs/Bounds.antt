-- How far the items of a list stand apart where they are placed in cycles, and how long the block is.
use Rattle.std.specs.Prelude.{◌≡◌, ℕ, ◌+◌, ◌-◌, ◌≤◌, ◌==◌, max, Bool, true, false, if◌then◌else◌, List, [], ◌∷◌, ◌++◌, map, filter, take, Option, Some, None, slice_get}
use Rattle.std.specs.Option.{option_map_or}
use Rattle.tta_moves.specs.Cited.{Machine, Target, Reg, Imm, Operand, Trigger, Control, Jumps, Calls, Halts, Place, KeptReg, KeptImm, KeptOperand, KeptRa, KeptPort, same_place, op_at, has_result, first_some}
use Rattle.tta_moves.specs.declared.items.Item.{Item}
use Rattle.tta_moves.specs.declared.items.PlacedItem.{PlacedItem}
use Rattle.tta_moves.specs.declared.items.Placed.{Placed}
use Rattle.tta_moves.specs.Touches.{guard_of, source_of, target_of_item, is_control, place_of_source, guard_place}
use Rattle.tta_moves.specs.Slots.{fits_cycle}

-- ---- what an item touches, and when

-- what can be touched: a place that keeps a word, or the trigger port of a unit
pub data Spot : Type 0 where
  At : Place → Spot
  Started : (unit : ℕ) → Spot

abbrev pub same_spot : Spot → Spot → Bool
same_spot (At p) (At q) = same_place p q
same_spot (At p) (Started unit) = false
same_spot (Started unit) (At q) = false
same_spot (Started u) (Started v) = u == v

-- a spot, and how many cycles after the item's own it is touched
abbrev pub Touch : Type 0
Touch = Spot × ℕ

-- after how many cycles the result of a target's operation is due, where it has one
abbrev pub due_after : Machine → Target → Option ℕ
due_after m (Reg file index) = None
due_after m (Imm unit index) = None
due_after m (Operand unit) = None
due_after m (Trigger unit op) = option_map_or (λ o. if has_result o.op then Some o.latency else None) (op_at m unit op) None
due_after m (Control kind) = None

-- an operation takes its operand as the cycle's own moves leave it
abbrev pub operand_read : Target → List Touch
operand_read (Reg file index) = []
operand_read (Imm unit index) = []
operand_read (Operand unit) = []
operand_read (Trigger unit op) = (At (KeptOperand unit), 1) ∷ []
operand_read (Control kind) = []

-- what an item reads: its source and its guard in its own cycle
abbrev pub reads_by : Item → List Touch
reads_by x =
    option_map_or (λ p. (At p, 0) ∷ []) (place_of_source (source_of x)) []
    ++ (option_map_or (λ g. (At (guard_place g), 0) ∷ []) (guard_of x) [] ++ operand_read (target_of_item x))

-- what a target writes: a register, an operand port and a trigger port from the next cycle on, a result port from when
-- the result is due
abbrev pub written_at : Machine → Target → List Touch
written_at m (Reg file index) = (At (KeptReg file index), 1) ∷ []
written_at m (Imm unit index) = (At (KeptImm unit index), 1) ∷ []
written_at m (Operand unit) = (At (KeptOperand unit), 1) ∷ []
written_at m (Trigger unit op) =
    (Started unit, 1) ∷ option_map_or (λ due. (At (KeptPort unit), due) ∷ []) (due_after m (Trigger unit op)) []
written_at m (Control Jumps) = []
written_at m (Control Calls) = (At KeptRa, 1) ∷ []
written_at m (Control Halts) = []

abbrev pub writes_by : Machine → Item → List Touch
writes_by m x = written_at m (target_of_item x)

-- ---- the bound of an item

-- the least cycle at which one's own touches of a spot are no earlier than a moment
abbrev pub from_moment : Spot → ℕ → List Touch → ℕ
from_moment x moment [] = 0
from_moment x moment (o ∷ own) = max (if same_spot x o.0 then moment - o.1 else 0) (from_moment x moment own)

-- the least cycle at which one's own touches of each spot are this far after those of an item in a cycle
abbrev pub behind : (gap cycle : ℕ) → List Touch → List Touch → ℕ
behind gap cycle [] own = 0
behind gap cycle (e ∷ earlier) own = max (from_moment e.0 (cycle + e.1 + gap) own) (behind gap cycle earlier own)

-- how many cycles an item takes: its own, or those until its result is due
abbrev pub lasts : Machine → Item → ℕ
lasts m x = max 1 (option_map_or (λ due. due) (due_after m (target_of_item x)) 0)

-- a control item does not end the block before an earlier item is over
abbrev pub over_before : Machine → Item → PlacedItem → ℕ
over_before m v x = if is_control v then x.cycle + lasts m x.item - (1 + m.control.delay) else 0

-- The least cycle that an earlier item allows: what it writes shows before it is read, and shows before what is written
-- later; what it reads is not written over before.
abbrev pub bound : Machine → Item → PlacedItem → ℕ
bound m v x =
    max (max (behind 0 x.cycle (writes_by m x.item) (reads_by v)) (behind 1 x.cycle (writes_by m x.item) (writes_by m v)))
    (max (behind 1 x.cycle (reads_by x.item) (writes_by m v)) (over_before m v x))

-- the least cycle that all earlier items allow
abbrev pub least : Machine → List PlacedItem → Item → ℕ
least m [] v = 0
least m (x ∷ placed) v = max (bound m v x) (least m placed v)

-- ---- the block

-- the cycle after the last that an item takes, at least 1
abbrev pub last_end : Machine → List PlacedItem → ℕ
last_end m [] = 1
last_end m (x ∷ placed) = max (x.cycle + lasts m x.item) (last_end m placed)

-- the cycle of the control item, if there is one
abbrev pub control_cycle : List PlacedItem → Option ℕ
control_cycle placed = first_some (λ x. if is_control x.item then Some x.cycle else None) placed

-- how many cycles a block takes: up to the effect of its control item, or else until all is done
abbrev pub length_of : Machine → List PlacedItem → ℕ
length_of m placed = option_map_or (λ cycle. cycle + 1 + m.control.delay) (control_cycle placed) (last_end m placed)

-- the items of a cycle
abbrev pub in_cycle : ℕ → List PlacedItem → List PlacedItem
in_cycle cycle placed = filter (λ x. x.cycle == cycle) placed

-- A placement that respects a list has its items in their order, each no earlier than the items before it allow; the
-- machine can carry out each cycle; and it is as long as a block of these items is.
pub record Respects (m : Machine) (items : List Item) (p : Placed) : Type 0 where
  pub order : map (λ x. x.item) p.items ≡ items
  pub bounds : (k : ℕ) (x : PlacedItem) → slice_get p.items k ≡ Some x → least m (take k p.items) x.item ≤ x.cycle
  pub cycles : (cycle : ℕ) → fits_cycle m (in_cycle cycle p.items) ≡ true
  pub long : p.length ≡ length_of m p.items
